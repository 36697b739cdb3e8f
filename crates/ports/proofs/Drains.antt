-- What one step of draining moves, and what a row of puts leaves in a sink.
use Rattle.std.proofs.Common.{◌≡◌, ℕ, Bool, true, false, cond, eqb, List, [], ◌∷◌, ◌++◌, length, drop, Ok, Err, Result, sym, refl, ap, ◌∙◌, subst, append_assoc, arith, eqb-true}
use borrow.Author.Tests.{eqb-false}
use Rattle.std.specs.List.{AllByRecursion}
use Rattle.std.specs.Prelude.{is_err}
use Rattle.std.proofs.lemmas.List.{append-nil}
use Rattle.cell.specs.Header.{connection_of}
use Rattle.cell.specs.Sorting.{header_of}
use Rattle.cell.specs.declared.refusal.Refusal.{Refusal}
use Rattle.cell.specs.declared.refusal.Refusal.TheVariants.{NoOctets, TooManyOctets, BadPhase, WrongLength, ReservedHeader, NotServed, NoSpace, NoneWaiting, BadSampleWord, NoOnePhase}
use Rattle.ports.specs.Cell.{Cell, User, of_connection}
use Rattle.ports.specs.Drain.{Moves, Stepped, Puts}
use Rattle.ports.specs.Sink.{SinkState, Put}
use Rattle.ports.specs.Source.{Taken, Looks, Takes}
use Rattle.ports.proofs.Octets.{header_read}

-- one more cell put after the others
pub puts_push : (cs : List Cell) (s t u : SinkState) (c : Cell) → Puts s cs t → Put t c.header c.payload u → Puts s (cs ++ c ∷ []) u
puts_push [] s t u c e p = (u, subst (λ (x : SinkState). Put x c.header c.payload u) e p, refl)
puts_push (d ∷ ds) s t u c (v, q, h) p = (v, q, puts_push ds v t u c h p)

-- each connection holds, behind what it held, those of the cells that belong to it
pub puts_gain : (cs : List Cell) (s t : SinkState) → Puts s cs t → (k : ℕ) → t.held k ≡ s.held k ++ of_connection k cs
puts_gain [] s t e k = ap (λ (x : SinkState). x.held k) e ∙ sym (append-nil (s.held k))
puts_gain (c ∷ cs) s t (u, p, q) k = puts_gain cs u t q k ∙ go (eqb (connection_of c.header) k) refl
  where
    go : (b : Bool) → eqb (connection_of c.header) k ≡ b → u.held k ++ of_connection k cs ≡ s.held k ++ cond b (c ∷ of_connection k cs) (of_connection k cs)
    go true e =
        let same : connection_of c.header ≡ k = eqb-true _ _ e in
        let h : u.held k ≡ s.held k ++ c ∷ [] = subst (λ (x : ℕ). u.held x ≡ s.held x ++ c ∷ []) same p.appended in
        ap (λ xs. xs ++ of_connection k cs) h ∙ append_assoc (s.held k) (c ∷ []) (of_connection k cs)
    go false e = ap (λ xs. xs ++ of_connection k cs) (p.others k (λ x. eqb-false _ _ e (sym x)))

-- a look that is not refused shows the cell that waits first
pub looked : {X : Type 0} (cells : List Cell) (place place' : List ℕ) (r : Result X Refusal) → false ≡ is_err r → Looks cells place r place' → (rest : List Cell) × Taken cells place' rest
looked cells place place' (Ok x) f h = h.1
looked cells place place' (Err e) f h = absurd (let z : false ≡ true = f in cc)

pub moved_on : (cells rest : List Cell) (s s' : SinkState) (waited : Bool) → waited ≡ true → Stepped cells s (Ok waited) rest s' → Moves cells s rest s'
moved_on cells rest s s' true e h = h
moved_on cells rest s s' false e h = absurd (let z : false ≡ true = e in cc)

-- a cell that was looked at, put and then taken
module _ (cells rest rest' : List Cell) (place place' payload : List ℕ) (header : ℕ) (before after : SinkState)
    (users : AllByRecursion User cells) (n : length place ≡ 52) (t : Taken cells place rest) (e : header ≡ header_of place) (f : payload ≡ drop 4 place) where
  user : User t.cell
  user = (subst (λ (x : List Cell). AllByRecursion User x) t.first users).0

  the_header : header ≡ t.cell.header
  the_header = e ∙ ap header_of t.written ∙ header_read t.cell user.fits

  the_payload : payload ≡ t.cell.payload
  the_payload = f ∙ ap (drop 4) t.written

  pub moves : {X : Type 0} (r : Result X Refusal) → Put before header payload after → Takes cells place r place' rest' → Moves cells before rest' after
  moves (Ok x) p k =
      let same : t.cell ∷ rest ≡ k.1.cell ∷ rest' = sym t.first ∙ k.1.first in
      let r : rest ≡ rest' = cc in
      record { cell = t.cell; first = t.first ∙ ap (λ xs. t.cell ∷ xs) r; put = subst (λ (x : ℕ). Put before x t.cell.payload after) the_header (subst (λ (x : List ℕ). Put before header x after) the_payload p) }
  moves (Err WrongLength) p k = absurd (k.0.1 n)
  moves (Err NoneWaiting) p k =
      let z : length (t.cell ∷ rest) ≡ 0 = ap length (sym t.first ∙ k.0.2) in absurd (omega arith)
  moves (Err NoOctets) p k = absurd k.0
  moves (Err TooManyOctets) p k = absurd k.0
  moves (Err BadPhase) p k = absurd k.0
  moves (Err ReservedHeader) p k = absurd k.0
  moves (Err NotServed) p k = absurd k.0
  moves (Err NoSpace) p k = absurd k.0
  moves (Err BadSampleWord) p k = absurd k.0
  moves (Err NoOnePhase) p k = absurd k.0
