-- In step at confidence 24, bits that change in at most six cells in a row leave every later undamaged cell as sent.
-- Knows the code by the record CodeLaws only, and of sinks nothing but what a row of offers adds.
use Rattle.std.proofs.Common.{◌≡◌, ℕ, suc, ◌+◌, ◌*◌, ◌<◌, ◌≤◌, Bool, ◌⊎◌, List, [], ◌∷◌, ◌++◌, map, length, get_or, take, drop, None, sym, refl, ap, ◌∙◌, subst, append_assoc, arith, length-append, length-drop, take-append-drop, length-take}
use lib.Seq.{drop-append-le}
use Rattle.std.specs.List.{AllByRecursion}
use Rattle.cell.specs.declared.header.Kind.TheVariants.{User}
use Rattle.ports.specs.Cell.{Cell, of_connection}
use Rattle.sender.specs.Stream.{Send, lost}
use Rattle.tracker.specs.declared.state.Lock.{Lock}
use Rattle.tracker.specs.declared.state.Place.TheVariants.{Payload}
use Rattle.tracker.specs.declared.tracker.Tracker.{Tracker}
use Rattle.tracker.specs.Tracker.{start}
use Rattle.receiver.specs.Run.{bits_of, after}
use Rattle.receiver.specs.Handing.{Moment, bits}
use Rattle.receiver.proofs.Runs.{after-append, bits-append}
use Rattle.line.specs.Heard.{Heard, ReadyAt, Begins, join}
use Rattle.line.specs.Laws.{header_bits, complete, InStep, Right, Follows, Undamaged, StaysInStep, BurstSurvived}
use Rattle.line.proofs.Bits.{value}
use Rattle.line.proofs.Carried.{Carried, CarriedOn, sent_user}
use Rattle.line.proofs.Cells.{At, long_run, synced}
use Rattle.line.proofs.CodeLaws.{CodeLaws, moved}
use Rattle.line.proofs.Frames.{sent_gained}
use Rattle.line.proofs.Gained.{Row, hands_of, gained_row}
use Rattle.line.proofs.Offers.{flat, Sized, rows_offers}
use Rattle.line.proofs.Reached.{fine_run}
use Rattle.line.proofs.RightHeader.{Cleared, right_clears}
use Rattle.line.proofs.Runs.{bits-take, length-bits, heard-rest}
use Rattle.line.proofs.Sends.{stream_carried, carried_at, header_long_lem, header_agrees, header_clean, sent_user_is}
use Rattle.line.proofs.Survives.{frames_of, lines_of, Survives, Same, whole, damaged, next, survives}
use Rattle.line.proofs.Puts.{gained}

-- ---- cells as they come in

flat_join : (gs : List (List Bool)) → flat (frames_of gs) ≡ join gs
flat_join [] = refl
flat_join (g ∷ gs) = ap (λ z. take 40 g ++ (drop 40 g ++ z)) (flat_join gs) ∙ sym (append_assoc (take 40 g) (drop 40 g) (join gs))
    ∙ ap (λ z. z ++ join gs) (take-append-drop 40 g)

pub length-join : (gs : List (List Bool)) → AllByRecursion (λ g. length g ≡ 424) gs → length (join gs) ≡ 424 * length gs
length-join [] e = refl
length-join (g ∷ gs) e = length-append g (join gs) ∙ (let h = e.0 in let z = length-join gs e.1 in omega arith)

sized_got : (gs : List (List Bool)) → AllByRecursion (λ g. length g ≡ 424) gs → Sized (frames_of gs)
sized_got [] e = tt
sized_got (g ∷ gs) e = (length-take 40 g ∙ (let h = e.0 in omega arith), length-drop 40 g ∙ (let h = e.0 in omega arith), sized_got gs e.1)

user_at : (before later : List Send) (y : Send) → get_or (map sent_user (before ++ y ∷ later)) (length before) None ≡ sent_user y
user_at [] later y = refl
user_at (x ∷ before) later y = user_at before later y

module _ (laws : CodeLaws) where
  pub right_cleared : (past : List Moment) (p : ℕ) (front : List Send) (x : Send) (back : List Send) (r : Right past p front x back)
      → Carried x.phase x
      → Cleared r.in_step.wrong r.in_step.confidence r.in_step.mode
  right_cleared past p front x back r f =
      right_clears (value (header_bits x)) x.phase (header_agrees laws f) (header_clean laws f) laws.no_fault (header_bits x)
      (after start r.on_header.0)
      r.in_step.mode r.in_step.kept r.in_step.wrong r.in_step.confidence r.in_step.samples (fine_run r.on_header.0 start tt)
      (header_long_lem laws f) refl
      (ap (λ (z : Tracker). z.control) (sym (after-append start r.on_header.0 (header_bits x)) ∙ ap (after start) (sym r.on_header.1))
      ∙ r.in_step.is)

  module _ (past rest : List Moment) (p : ℕ) (front back : List Send) (x : Send) (g : List Bool) (gs : List (List Bool)) (d : ℕ)
      (heard : Heard start (past ++ rest)) (F : Follows past rest p front x back (g ∷ gs)) (full : F.right.in_step.confidence ≡ 24)
      (U : (i : ℕ) → (i < d) ⊎ (d + 6 ≤ i) → Undamaged (x ∷ back) (g ∷ gs) i) where
    abbrev here : Tracker
    here = after start (bits past)

    abbrev st : InStep (after start (bits past)) x.phase
    st = F.right.in_step

    carried : CarriedOn x.phase (x ∷ back)
    carried = stream_carried p front x back F.right.stream

    abbrev lock : Lock
    lock = synced st.wrong st.confidence x.phase st.samples

    at_here : At here st.mode (Payload 47 7 st.kept lock)
    at_here = record { control = st.is; long = long_run (bits past) start }

    long : length (drop 40 g) ≡ 384
    long = length-drop 40 g ∙ (let h = F.whole.0 in omega arith)

    damage : (d' : ℕ) × (r : ℕ) × (r ≤ 6) × Same gs (lines_of back) d' r
    damage = elim (next g (bits_of x.line) gs (lines_of back) d 6 U) [ whole e d' s ↦ (d', 6, omega arith, s) | damaged r e s ↦ (0, r, omega arith, s) ]

    row : Survives st.mode st.kept lock x.phase (drop 40 g) gs back
    row = survives laws gs back damage.0 damage.1 st.kept st.wrong st.confidence x.phase st.mode st.samples (drop 40 g)
        (let z = (right_cleared past p front x back F.right carried.0).none in let y = damage.2 in omega arith)
        (let z = full in let y = damage.2 in omega arith) (let z = full in omega arith) carried.1 F.whole.1
        (let z = F.as_many in omega arith) damage.3

    begins : Begins (bits rest) (drop 40 g ++ flat (frames_of gs))
    begins = (
      F.comes.0,
      F.comes.1 ∙ drop-append-le 40 g (join gs) (let h = F.whole.0 in omega arith)
          ∙ ap (λ z. drop 40 g ++ z) (sym (flat_join gs)),
    )

    most : length rest ≤ 384 + 424 * length gs
    most =
        let a = ap length begins.1 in let b = length-append (bits rest) begins.0 in let c = length-append (drop 40 g) (flat (frames_of gs)) in
        let e = ap length (flat_join gs) in let f = length-join gs F.whole.1 in let z = length-bits rest in let y = long in omega arith

    stay : StaysInStep past rest (x ∷ back)
    stay before later y e lt =
        let n : ℕ = 424 * length before in
        let o = row.stays here (bits rest) at_here long begins (length before) (let z = length-bits rest in omega arith) in
        let a : after start (bits (past ++ take n rest)) ≡ after here (take n (bits rest)) =
        ap (after start) (bits-append past (take n rest)) ∙ after-append start (bits past) (bits (take n rest))
        ∙ ap (after here) (bits-take n rest) in
        let f : y.phase ≡ moved (length before) x.phase = (carried_at before y later x.phase (subst (CarriedOn x.phase) e carried)).phase in
        subst (InStep (after start (bits (past ++ take n rest)))) (sym f)
        (subst (λ (z : Tracker). InStep z (moved (length before) x.phase)) (sym a) o)

    gain : (k : ℕ) → Row k rest row.us
    gain k =
        gained_row k rest (rows_offers (frames_of gs) st.mode st.kept lock (drop 40 g) row.us here (bits rest) at_here long
        (sized_got gs F.whole.1) begins row.brings)
        (hands_of rest here (heard-rest start past rest heard))

    -- an undamaged cell after the first
    as_sent_lem : (k : ℕ) (before later : List Send) (y : Send) → x ∷ back ≡ before ++ y ∷ later → 1 ≤ length before
        → length before < complete (length rest)
        → Undamaged (x ∷ back) (g ∷ gs) (length before) → (y.kind ≡ User → ReadyAt rest (424 * length before + 383) y.cell)
        → get_or (gain k).pieces (length before) [] ≡ of_connection k (lost y)
    as_sent_lem k [] later y e le lt u ready = absurd (omega arith)
    as_sent_lem k (b ∷ before) later y e le lt u ready =
        let f : Carried (moved (suc (length before)) x.phase) y = carried_at (b ∷ before) y later x.phase
        (subst (CarriedOn x.phase) e carried) in
        let i : get_or row.us (suc (length before)) None ≡ sent_user y =
        row.ups (length before) (let z = most in omega arith) u
        ∙ ap (λ (z : List Send). get_or (map sent_user z) (length before) None) (ap (drop 1) e) ∙ user_at before later y in
        (gain k).whole (suc (length before)) lt
        (λ c h. let v = sent_user_is f c (sym i ∙ h) in subst (λ (z : Cell). ReadyAt rest (424 * suc (length before) + 383) z) v.1 (ready v.0))
        ∙ ap (gained k) i ∙ sent_gained k f

  pub burst_survived : (all : List Moment) → Heard start all → BurstSurvived all
  burst_survived all heard past rest p front back x [] d split F full U = absurd (let z = F.as_many in omega arith)
  burst_survived all heard past rest p front back x (g ∷ gs) d split F full U =
      let h : Heard start (past ++ rest) = subst (Heard start) split heard in (
        stay past rest p front back x g gs d h F full U,
        λ k. let r = gain past rest p front back x g gs d h F full U k in
            record {
              pieces = r.pieces;
              count = r.many;
              gains = r.gains;
              few = r.few;
              as_sent = as_sent_lem past rest p front back x g gs d h F full U k;
            },
      )
