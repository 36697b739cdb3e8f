-- Cells that go out one after the other: a further one goes on with those before it.
use Rattle.std.proofs.Common.{◌≡◌, ℕ, ◌+◌, ◌<◌, List, [], ◌∷◌, ◌++◌, length, Option, refl, sym, ap, ◌∙◌, subst, append_assoc, append-nil, length-append, arith}
use Rattle.std.specs.Prelude.{◌≢◌, All}
use Rattle.std.specs.List.{AllByRecursion}
use Rattle.std.proofs.lemmas.List.{nil_from_length}
use Rattle.std.proofs.lemmas.List.Elements.{All-append, All-from_recursion}
use Rattle.std.proofs.KnownBytes.{Appends-nil, Appends-trans}
use Rattle.std.specs.Io.KnownBytes.{Appends}
use Rattle.cell.specs.declared.header.Kind.{Kind}
use Rattle.ports.specs.Cell.{Cell, User}
use Rattle.sender.specs.Sender as sender
use Rattle.sender.specs.Sender.{Sends}
use Rattle.sender.specs.Stream.{Send, line_of, lost, sent_users}
use Rattle.sender.proofs.Streams.{sent_taken}
use Rattle.outgoing_line.specs.Tally.{counted_cell}
use Rattle.outgoing_line.specs.Sending.{Goes, Sent, CellSent, UnusedSent, WaitingSent}
use Rattle.outgoing_line.specs.declared.line.Line.{Line}

pub cell_sent : (l l' : Line) (w w' : Option (List ℕ)) (cells rest : List Cell) (kind : Kind) (octets : List ℕ)
    → Sends l.sender cells kind octets l'.sender rest → AllByRecursion User cells → l'.tally ≡ counted_cell kind l.tally → Appends w w' octets
    → CellSent l cells w l' rest w'
cell_sent l l' w w' cells rest kind octets sends users counted written =
    record {
      send = record { waiting = cells; phase = l.sender.phase; cell = sender.cell_sent l.sender cells; kind = kind; line = octets; left = rest };
      goes = record { waiting = refl; accepted = record { users = users; phase = refl; cell = refl; sends = sends }; counted = counted };
      left = refl;
      written = written;
    }

sent_more : (l m n : Line) (cells rest : List Cell) (xs : List Send) (x : Send) → Sent l cells xs m rest → Goes m rest x n → Sent l cells (xs ++ x ∷ []) n x.left
sent_more l m n cells rest [] x (same, kept) goes = (n, subst (λ k. Goes k cells x n) same (subst (λ cs. Goes m cs x n) kept goes), (refl, refl))
sent_more l m n cells rest (y ∷ ys) x (k, first, others) goes = (k, first, sent_more k m n y.left rest ys x others goes)

line_more : (xs : List Send) (x : Send) → line_of (xs ++ x ∷ []) ≡ line_of xs ++ x.line
line_more [] x = append-nil x.line
line_more (y ∷ ys) x = ap (λ os. y.line ++ os) (line_more ys x) ∙ sym (append_assoc y.line (line_of ys) x.line)

users_more : (xs : List Send) (x : Send) → sent_users (xs ++ x ∷ []) ≡ sent_users xs ++ lost x
users_more [] x = append-nil (lost x)
users_more (y ∷ ys) x = ap (λ cs. lost y ++ cs) (users_more ys x) ∙ sym (append_assoc (lost y) (sent_users ys) (lost x))

-- a cell waits before the send
abbrev Waits : Send → Type 0
Waits x = x.waiting ≢ []

-- a block of which the user cells `rest` still wait
pub record WaitingBegun (cells : List Cell) (l : Line) (w : Option (List ℕ)) (l' : Line) (rest : List Cell) (w' : Option (List ℕ)) : Type 0 where
  pub sends : List Send
  pub sent : Sent l cells sends l' rest
  pub users : sent_users sends ++ rest ≡ cells
  pub waited : All (λ x. x.waiting ≢ []) sends
  pub written : Appends w w' (line_of sends)

module _ (l l' : Line) (cells rest : List Cell) (w w' : Option (List ℕ)) (c : CellSent l cells w l' rest w') where
  taken : cells ≡ lost c.send ++ rest
  taken = sym c.goes.waiting ∙ sent_taken c.send l.sender l'.sender c.goes.accepted ∙ ap (λ cs. lost c.send ++ cs) (sym c.left)

  none_left : cells ≡ [] → rest ≡ []
  none_left none = nil_from_length rest (omega (arith, ap length (sym taken ∙ none), length-append (lost c.send) rest))

  sent_on : (k : Line) (before : List Cell) (xs : List Send) → Sent k before xs l cells → Sent k before (xs ++ c.send ∷ []) l' rest
  sent_on k before xs sent = subst (Sent k before (xs ++ c.send ∷ []) l') (sym c.left) (sent_more k l l' before cells xs c.send sent c.goes)

  written_on : (v : Option (List ℕ)) (xs : List Send) → Appends v w (line_of xs) → Appends v w' (line_of (xs ++ c.send ∷ []))
  written_on v xs h = subst (Appends v w') (sym (line_more xs c.send)) (Appends-trans v w w' _ c.send.line h c.written)

  users_on : (before : List Cell) (xs : List Send) → sent_users xs ++ cells ≡ before → sent_users (xs ++ c.send ∷ []) ++ rest ≡ before
  users_on before xs h =
      ap (λ cs. cs ++ rest) (users_more xs c.send) ∙ append_assoc (sent_users xs) (lost c.send) rest ∙ ap (λ cs. sent_users xs ++ cs) (sym taken) ∙ h

module _ (l : Line) (w : Option (List ℕ)) where
  pub unused_begun : UnusedSent 0 l w l w
  unused_begun = record { sends = []; sent = (refl, refl); count = refl; written = Appends-nil w }

  pub waiting_begun : (cells : List Cell) → WaitingBegun cells l w l cells w
  waiting_begun cells = record { sends = []; sent = (refl, refl); users = refl; waited = λ k d few. absurd (omega arith); written = Appends-nil w }

  module _ (m n : Line) (v v' : Option (List ℕ)) (rest left : List Cell) where
    pub unused_sent : (k : ℕ) → UnusedSent k l w m v → CellSent m rest v n left v' → rest ≡ [] → UnusedSent (k + 1) l w n v'
    unused_sent k b c none =
        let sent : Sent l [] b.sends m rest = subst (Sent l [] b.sends m) (sym none) b.sent in
        record {
          sends = b.sends ++ c.send ∷ [];
          sent = subst (Sent l [] (b.sends ++ c.send ∷ []) n) (none_left m n rest left v v' c none) (sent_on m n rest left v v' c l [] b.sends sent);
          count = length-append b.sends (c.send ∷ []) ∙ ap (λ i. i + 1) b.count;
          written = written_on m n rest left v v' c w b.sends b.written;
        }

    pub waiting_sent : (cells : List Cell) → WaitingBegun cells l w m rest v → CellSent m rest v n left v' → 0 < length rest → WaitingBegun cells l w n left v'
    waiting_sent cells b c some =
        let waits : c.send.waiting ≢ [] = λ none. (let none_waits : length rest ≡ 0 = ap length (sym c.goes.waiting ∙ none) in absurd (omega arith)) in
        record {
          sends = b.sends ++ c.send ∷ [];
          sent = sent_on m n rest left v v' c l cells b.sends b.sent;
          users = users_on m n rest left v v' c cells b.sends b.users;
          waited = All-append Waits b.sends (c.send ∷ []) b.waited (All-from_recursion Waits (c.send ∷ []) (waits, tt));
          written = written_on m n rest left v v' c w b.sends b.written;
        }

  pub waiting_out : (cells rest : List Cell) (m : Line) (v : Option (List ℕ)) → WaitingBegun cells l w m rest v → length rest ≡ 0 → WaitingSent cells l w m v
  waiting_out cells rest m v b none =
      let empty : rest ≡ [] = nil_from_length rest none in
      record {
        sends = b.sends;
        sent = subst (Sent l cells b.sends m) empty b.sent;
        users = sym (append-nil (sent_users b.sends)) ∙ ap (λ cs. sent_users b.sends ++ cs) (sym empty) ∙ b.users;
        waited = b.waited;
        written = b.written;
      }
