-- In step, a row of cells of which at most six in a row are damaged: the end stays in step. Knows the code by the record CodeLaws only,
-- and nothing of sinks.
--
--   Onward        any header leaves an end in step where it was: one wrong header more at most, and one less of confidence
--   taken m q w   the header that is taken in Steady, if one is
--   frames_of gs  cells as they came in, each as header and payload
--   lines_of xs   the bits of the cells of sends
--   Same          all cells but r in a row came as sent
--   Survives      what is offered while the cells gs come in, where ls were sent, and that the end stays in step
use Rattle.std.proofs.Common.{◌≡◌, ℕ, zero, suc, ◌+◌, ◌-◌, ◌*◌, ◌<◌, ◌≤◌, Bool, true, false, cond, ltb, ◌⊎◌, List, [], ◌∷◌, ◌++◌, map, length, get_or, take, drop, Some, None, Option, sym, refl, ap, ◌∙◌, subst, ap₂, inl, inr, ⊎_elim, true≢false, arith, length-append, length-drop, length-take, lt-ltb}
use lib.Seq.{take-append-add}
use Rattle.std.specs.List.{AllByRecursion}
use Rattle.cell.specs.Verdict.{verdict_of}
use Rattle.cell.specs.declared.header.Header as headers
use Rattle.cell.specs.declared.verdict.Verdict.{Verdict}
use Rattle.cell.specs.declared.verdict.Verdict.TheVariants.{Clean}
use Rattle.ports.specs.Cell.{Cell}
use Rattle.scrambler.specs.Generator.{next_phase}
use Rattle.sender.specs.Stream.{Send}
use Rattle.tracker.specs.declared.state.Mode.{Mode}
use Rattle.tracker.specs.declared.state.Mode.TheVariants.{Correction}
use Rattle.tracker.specs.declared.state.Delineation.{Delineation}
use Rattle.tracker.specs.declared.state.Delineation.TheVariants.{Sync}
use Rattle.tracker.specs.declared.state.Descrambler.{Descrambler}
use Rattle.tracker.specs.declared.state.Descrambler.TheVariants.{Acquisition, Steady}
use Rattle.tracker.specs.declared.state.Lock.{Lock}
use Rattle.tracker.specs.declared.state.Place.TheVariants.{Payload}
use Rattle.tracker.specs.declared.state.Control.{Control}
use Rattle.tracker.specs.declared.tracker.Tracker.{Tracker}
use Rattle.tracker.specs.Window.{freed, sample_fault, header_in}
use Rattle.tracker.specs.Rules.{hold, is_clean, verdict_at, delineation_after, mode_on, taken_by, entered, sampled, headed}
use Rattle.receiver.specs.Run.{bits_of, after, user_cell}
use Rattle.receiver.proofs.Runs.{after-append}
use Rattle.line.specs.Heard.{Begins}
use Rattle.line.specs.Laws.{InStep}
use Rattle.line.proofs.Bits.{value}
use Rattle.line.proofs.Carried.{Carried, CarriedOn, sent_user}
use Rattle.line.proofs.CellOffers.{cell_from}
use Rattle.line.proofs.Cells.{at, At, synced}
use Rattle.line.proofs.CodeLaws.{CodeLaws, moved}
use Rattle.line.proofs.SentHeaders.{clean_taken, sent_up}
use Rattle.line.proofs.Offers.{Frame, flat, Brings, first_of, whole_of}
use Rattle.line.proofs.Reached.{raised, raised_is}
use Rattle.line.proofs.Sends.{moved_next, header_clean, header_descrambled}

-- ---- any header, and a right one

record Onward (n c q u : ℕ) (kept : Option headers.Header) (p : Control) : Type 0 where
  wrong : ℕ
  conf : ℕ
  mode : Mode
  is : p ≡ at mode (Payload 47 7 kept (synced wrong conf q u))
  worse : wrong ≤ n + 1
  lower : c ≤ conf + 1
  most : conf ≤ 24

hold_down : (t : Bool) (c q : ℕ) → ltb 16 c ≡ t → 17 ≤ c → c ≤ 24
    → (conf : ℕ) × (cond t (Steady (c - 1) q) (Acquisition 0) ≡ Steady conf q) × (c ≤ conf + 1) × (conf ≤ 24)
hold_down true c q e h k = (c - 1, refl, omega arith, omega arith)
hold_down false c q e h k = absurd (true≢false (sym (lt-ltb 16 c (omega arith)) ∙ e))

pub hold_any : (f : Bool) (c q : ℕ) → 17 ≤ c → c ≤ 24 → (conf : ℕ) × (hold f c q ≡ Steady conf q) × (c ≤ conf + 1) × (conf ≤ 24)
hold_any true c q h k = hold_down (ltb 16 c) c q refl h k
hold_any false c q h k = let r = raised_is c k in let a = r.0 in let b = r.1 in (raised c, refl, omega arith, b)

bound_any : (t : Bool) (n : ℕ) → n ≤ 5 → (k : ℕ) × (delineation_after (Sync n) t ≡ Some (Sync k)) × (k ≤ n + 1)
bound_any true n h = (0, refl, omega arith)
bound_any false n h = (n + 1, ap (λ t. cond t (Some (Sync (n + 1))) None) (lt-ltb (n + 1) 7 (omega arith)), omega arith)

abbrev pub taken : Mode → ℕ → ℕ → Option headers.Header
taken m q w = taken_by m (verdict_at q w) q w

any_header : (n c q : ℕ) (m : Mode) (u w : ℕ) → n ≤ 5 → 17 ≤ c → c ≤ 24
    → Onward n c (next_phase q) (sampled u w) (taken m (next_phase q) w) (headed m (synced n c q u) w)
any_header n c q m u w h k j =
    let b = bound_any (is_clean (verdict_at (next_phase q) w)) n h in
    let d = hold_any (sample_fault (freed (next_phase q) w)) c (next_phase q) k j in
    record {
      wrong = b.0;
      conf = d.0;
      mode = mode_on (verdict_at (next_phase q) w);
      is = ap₂ (λ (y : Option Delineation) (z : Descrambler). entered (synced n c q u) (taken m (next_phase q) w) z (sampled u w)
          (mode_on (verdict_at (next_phase q) w)) y) b.1 d.1;
      worse = b.2;
      lower = d.2;
      most = d.3;
    }

right_header : (n c q : ℕ) (m : Mode) (u w : ℕ) → freed (next_phase q) w ≡ 0 → verdict_at (next_phase q) w ≡ Clean
    → headed m (synced n c q u) w ≡ at Correction (Payload 47 7 (taken m (next_phase q) w) (synced 0 (raised c) (next_phase q) (sampled u w)))
right_header n c q m u w e v =
    ap₂ (λ (f : ℕ) (z : Verdict). entered (synced n c q u) (taken m (next_phase q) w) (hold (sample_fault f) c (next_phase q)) (sampled u w) (mode_on z)
    (delineation_after (Sync n) (is_clean z))) e v

-- ---- a row of cells, of which some are damaged

abbrev pub frames_of : List (List Bool) → List Frame
frames_of [] = []
frames_of (g ∷ gs) = record { head = take 40 g; body = drop 40 g } ∷ frames_of gs

abbrev pub lines_of : List Send → List (List Bool)
lines_of xs = map (λ (x : Send). bits_of x.line) xs

pub record Survives (d : Mode) (kept : Option headers.Header) (l : Lock) (q : ℕ) (w : List Bool) (gs : List (List Bool))
    (ls : List Send) : Type 0 where
  pub us : List (Option Cell)
  pub brings : Brings d kept l w (frames_of gs) us
  pub ups : (i : ℕ) → i < length gs → get_or gs i [] ≡ get_or (lines_of ls) i [] → get_or us (suc i) None ≡ get_or (map sent_user ls) i None
  pub stays : (s : Tracker) (bs : List Bool) → At s d (Payload 47 7 kept l) → length w ≡ 384 → Begins bs (w ++ flat (frames_of gs))
      → (i : ℕ) → 424 * i ≤ length bs → InStep (after s (take (424 * i) bs)) (moved i q)

abbrev pub Same : List (List Bool) → List (List Bool) → ℕ → ℕ → Type 0
Same gs ts d r = (i : ℕ) → (i < d) ⊎ (d + r ≤ i) → get_or gs i [] ≡ get_or ts i []

-- the first cell, and the damage seen from the next on
pub data Next (g t : List Bool) (gs ts : List (List Bool)) (r : ℕ) : Type 0 where
  whole : g ≡ t → (d : ℕ) → Same gs ts d r → Next g t gs ts r
  damaged : (r' : ℕ) → r ≡ suc r' → Same gs ts 0 r' → Next g t gs ts r

pub next : (g t : List Bool) (gs ts : List (List Bool)) (d r : ℕ) → Same (g ∷ gs) (t ∷ ts) d r → Next g t gs ts r
next g t gs ts (suc d) r s = whole (s 0 (inl (omega arith))) d (λ i o. s (suc i) (⊎_elim (λ a. inl (omega arith)) (λ a. inr (omega arith)) o))
next g t gs ts zero (suc r) s = damaged r refl (λ i o. s (suc i) (⊎_elim (λ a. absurd (omega arith)) (λ a. inr (omega arith)) o))
next g t gs ts zero zero s = whole (s 0 (inr (omega arith))) 0 (λ i o. s (suc i) (inr (omega arith)))

in_step_now : (kept : Option headers.Header) (n c q : ℕ) (m : Mode) (u : ℕ) (s : Tracker) → At s m (Payload 47 7 kept (synced n c q u)) → InStep s q
in_step_now kept n c q m u s e = record { confidence = c; kept = kept; wrong = n; mode = m; samples = u; is = e.control }

module _ (laws : CodeLaws) where
  clean_head : (g : List Bool) (q : ℕ) (x : Send) → Carried q x → g ≡ bits_of x.line → freed q (value (take 40 g)) ≡ 0
  clean_head g q x f e = ap (λ z. freed q (value (take 40 z))) e ∙ header_clean laws f

  clean_verdict : (g : List Bool) (q : ℕ) (x : Send) → Carried q x → g ≡ bits_of x.line → verdict_at q (value (take 40 g)) ≡ Clean
  clean_verdict g q x f e = ap verdict_of (clean_head g q x f e) ∙ laws.no_fault

  -- an undamaged cell comes up as sent, whatever came before
  whole_up : (q : ℕ) (m : Mode) (n c u : ℕ) (g : List Bool) (x : Send) → Carried q x → g ≡ bits_of x.line
      → user_cell (cell_from (taken m q (value (take 40 g))) (synced n c q u) (drop 40 g)) ≡ sent_user x
  whole_up q m n c u g x f e =
      ap₂ (λ (y : Option headers.Header) (z : List Bool). user_cell (cell_from y (synced n c q u) (drop 40 z)))
      (clean_taken m (verdict_at q (value (take 40 g))) q (value (take 40 g)) (record { 0 = x.cell.header }) (clean_verdict g q x f e)
      (ap (λ z. header_in q (value (take 40 z))) e ∙ header_descrambled laws f))
      e
      ∙ sent_up laws q x n c u f

  -- one cell more in front of a row
  module _ (kept : Option headers.Header) (n c q : ℕ) (m : Mode) (u : ℕ) (w g : List Bool) (gs : List (List Bool)) (x : Send) (ls : List Send)
      (n' c' : ℕ) (m' : Mode)
      (f : Carried (next_phase q) x) (len : length g ≡ 424)
      (is : headed m (synced n c q u) (value (take 40 g)) ≡ at m'
      (Payload 47 7 (taken m (next_phase q) (value (take 40 g))) (synced n' c' (next_phase q) (sampled u (value (take 40 g))))))
      (r : Survives m' (taken m (next_phase q) (value (take 40 g))) (synced n' c' (next_phase q) (sampled u (value (take 40 g)))) (next_phase q)
      (drop 40 g) gs ls) where
    abbrev next-lock : Lock
    next-lock = synced n' c' (next_phase q) (sampled u (value (take 40 g)))

    abbrev next-kept : Option headers.Header
    next-kept = taken m (next_phase q) (value (take 40 g))

    longer_ups : (i : ℕ) → i < length (g ∷ gs) → get_or (g ∷ gs) i [] ≡ get_or (lines_of (x ∷ ls)) i []
        → get_or (user_cell (cell_from kept (synced n c q u) w) ∷ r.us) (suc i) None ≡ get_or (map sent_user (x ∷ ls)) i None
    longer_ups zero lt s =
        ap (λ (v : List (Option Cell)). get_or v 0 None) (first_of m' next-kept next-lock (drop 40 g) (frames_of gs) r.us r.brings).1
        ∙ whole_up (next_phase q) m n' c' (sampled u (value (take 40 g))) g x f s
    longer_ups (suc i) lt s = r.ups i (omega arith) s

    longer_stays : (s : Tracker) (bs : List Bool) → At s m (Payload 47 7 kept (synced n c q u)) → length w ≡ 384
        → Begins bs (w ++ flat (frames_of (g ∷ gs)))
        → (i : ℕ) → 424 * i ≤ length bs → InStep (after s (take (424 * i) bs)) (moved i q)
    longer_stays s bs p lw b zero lt = in_step_now kept n c q m u s p
    longer_stays s bs p lw b (suc i) lt =
        let v = whole_of m kept (synced n c q u) w (record { head = take 40 g; body = drop 40 g }) (frames_of gs) s bs p lw
        (length-take 40 g ∙ (omega arith)) b (omega arith) in
        let t : take (424 * suc i) bs ≡ v.front ++ take (424 * i) v.back =
        ap₂ (λ (j : ℕ) (z : List Bool). take j z) (let d = v.count in let z : 424 * suc i ≡ length v.front + 424 * i = omega arith in z) v.is
        ∙ take-append-add v.front v.back (424 * i) in
        let o₁ : after s (take (424 * suc i) bs) ≡ after (after s v.front) (take (424 * i) v.back) =
        ap (after s) t ∙ after-append s v.front (take (424 * i) v.back) in
        let o = r.stays (after s v.front) v.back (record { control = v.control ∙ is; long = v.octets }) (length-drop 40 g ∙ (omega arith))
        v.rest i
        (let z = ap length v.is ∙ length-append v.front v.back in let d = v.count in omega arith) in
        subst (λ (z : Tracker). InStep z (moved (suc i) q)) (sym o₁)
        (subst (InStep (after (after s v.front) (take (424 * i) v.back))) (moved_next i q) o)

    longer : Survives m kept (synced n c q u) q w (g ∷ gs) (x ∷ ls)
    longer = record {
      us = user_cell (cell_from kept (synced n c q u) w) ∷ r.us;
      brings = (m', next-kept, next-lock, r.us, is, refl, r.brings);
      ups = longer_ups;
      stays = longer_stays;
    }

  pub survives : (gs : List (List Bool)) (ls : List Send) (d r : ℕ) (kept : Option headers.Header) (n c q : ℕ) (m : Mode) (u : ℕ) (w : List Bool)
      → n + r ≤ 6 → 18 + r ≤ c → c ≤ 24
      → CarriedOn (next_phase q) ls → AllByRecursion (λ g. length g ≡ 424) gs → length gs ≡ length ls → Same gs (lines_of ls) d r
      → Survives m kept (synced n c q u) q w gs ls
  survives [] ls d r kept n c q m u w hx hc hm f l many s = record {
    us = user_cell (cell_from kept (synced n c q u) w) ∷ [];
    brings = refl;
    ups = λ i lt e. absurd (omega arith);
    stays = only;
  }
    where
      only : (s : Tracker) (bs : List Bool) → At s m (Payload 47 7 kept (synced n c q u)) → length w ≡ 384 → Begins bs (w ++ []) → (i : ℕ)
          → 424 * i ≤ length bs → InStep (after s (take (424 * i) bs)) (moved i q)
      only s bs p lw b zero lt = in_step_now kept n c q m u s p
      only s bs p lw b (suc i) lt =
          absurd (let z = ap length b.1 in let y = length-append bs b.0 in let e = length-append w [] in omega arith)
  survives (g ∷ gs) [] d r kept n c q m u w hx hc hm f l many s = absurd (omega arith)
  survives (g ∷ gs) (x ∷ ls) d r kept n c q m u w hx hc hm f l many s =
      elim (next g (bits_of x.line) gs (lines_of ls) d r s) [
        | whole e d' s' ↦
            let ra = raised_is c hm in
            let r₀ = ra.0 in
            longer kept n c q m u w g gs x ls 0 (raised c) Correction f.0 l.0
            (right_header n c q m u (value (take 40 g)) (clean_head g (next_phase q) x f.0 e) (clean_verdict g (next_phase q) x f.0 e))
            (survives gs ls d' r _ 0 (raised c) (next_phase q) Correction _ (drop 40 g) (omega arith) (omega arith) ra.1 f.1 l.1 (omega arith) s')
        | damaged r' e s' ↦
            let o = any_header n c q m u (value (take 40 g)) (omega arith) (omega arith) hm in
            longer kept n c q m u w g gs x ls o.wrong o.conf o.mode f.0 l.0 o.is
            (survives gs ls zero r' _ o.wrong o.conf (next_phase q) o.mode _ (drop 40 g) (let z = o.worse in omega arith)
            (let z = o.lower in omega arith) o.most f.1 l.1 (omega arith) s')
      ]
