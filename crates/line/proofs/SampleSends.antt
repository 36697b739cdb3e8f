-- A sender for which a user cell always waits: its sends, and a history of its calls. Knows of coding only that it is done.
--
--   sample_cell   a user cell, of the connection sample_connection
--   send_on s     what the sender s sends where that cell waits
--   sends_on n s  n of these sends in a row
--   sent_on n s   the sender after them
--   Grown n h     the history h with n such sends more
use Rattle.std.proofs.Common.{◌≡◌, ℕ, zero, suc, ◌^◌, ◌<◌, Bool, true, false, cond, eqb, List, [], ◌∷◌, ◌++◌, length, replicate, Ok, sym, refl, ap, ◌∙◌, append_assoc, append-nil, arith, lit<, eqb-true}
use borrow.Author.Tests.{eqb-false}
use Rattle.std.specs.List.{AllByRecursion}
use Rattle.cell.specs.declared.header.Kind.TheVariants.{F3, User}
use Rattle.ports.specs.Cell as cells
use Rattle.ports.specs.Cell.{Cell, octets}
use Rattle.scrambler.specs.Coding.{coded}
use Rattle.sender.specs.Sender.{SenderState, Sends, fresh, cell_sent, kind_sent, left_waiting, advanced, f3_cell, Octets, KindWhy}
use Rattle.sender.specs.Stream.{Send}
use Rattle.line.specs.Sending as sending
use Rattle.line.specs.Sending.{Sending, Stream, History, sent}

-- VPI 1, VCI 33
abbrev pub sample_cell : Cell
sample_cell = record { header = 0x00100210; payload = replicate 48 0x2A }

abbrev pub sample_connection : ℕ
sample_connection = 65569

sample_user : cells.User sample_cell
sample_user = record { fits = lit< tt; user = refl; whole = refl }

abbrev one : List Cell
one = sample_cell ∷ []

abbrev pub send_on : SenderState → Send
send_on s = record {
  waiting = one;
  phase = s.phase;
  cell = cell_sent s one;
  kind = kind_sent s one;
  line = coded s.phase (octets (cell_sent s one));
  left = left_waiting s one;
}

abbrev pub sends_on : ℕ → SenderState → List Send
sends_on zero s = []
sends_on (suc n) s = send_on s ∷ sends_on n (advanced s)

abbrev pub sent_on : ℕ → SenderState → SenderState
sent_on zero s = s
sent_on (suc n) s = sent_on n (advanced s)

all_replicate : (n x : ℕ) → x < 2 ^ 8 → AllByRecursion (λ y. y < 2 ^ 8) (replicate n x)
all_replicate zero x h = tt
all_replicate (suc n) x h = (h, all_replicate n x h)

pub fresh-octets : Octets 48 fresh.f3
fresh-octets = (refl, all_replicate 48 0x6A (lit< tt))

sample_octets : Octets 48 sample_cell.payload
sample_octets = (refl, all_replicate 48 0x2A (lit< tt))

payload_octets : (t : Bool) (s : SenderState) → Octets 48 s.f3 → Octets 48 (cond t (f3_cell s) sample_cell).payload
payload_octets true s h = h
payload_octets false s h = sample_octets

why : (t : Bool) (s : SenderState) → eqb s.number 0 ≡ t → KindWhy s one (cond t F3 User)
why true s e = (refl, eqb-true s.number 0 e)
why false s e = (refl, eqb-false s.number 0 e, λ z. absurd (let y : ◌≡◌ {A = ℕ} 1 0 = ap length z in omega arith))

sends_one : (s : SenderState) → Octets 48 s.f3 → Sends s one (kind_sent s one) (send_on s).line (advanced s) (left_waiting s one)
sends_one s h =
    record {
      sort = refl;
      why = why (eqb s.number 0) s refl;
      payload = payload_octets (eqb s.number 0) s h;
      written = refl;
      after = refl;
      left = refl;
    }

abbrev call : SenderState → sending.Call
call s = sending.send (record { waiting = one; place = replicate 53 0; answer = Ok (kind_sent s one); waiting' = left_waiting s one; place' = (send_on s).line })

called_one : {cs : List sending.Call} {s : SenderState} → History cs s → Octets 48 s.f3 → History (call s ∷ cs) (advanced s)
called_one {s = s} h o = sending.called h ((sample_user, tt), (refl, sends_one s o))

pub record Grown (n : ℕ) (s : SenderState) (x : Stream) : Type 0 where
  pub calls : List sending.Call
  pub history : History calls (sent_on n s)
  pub begins : (sent history).newest.begins ≡ x.begins
  pub sends : (sent history).newest.sends ≡ x.sends ++ sends_on n s

pub grown : (n : ℕ) {cs : List sending.Call} {s : SenderState} (h : History cs s) → Octets 48 s.f3 → Grown n s (sent h).newest
unfolding called_one
grown zero {cs = cs} h o = record { calls = cs; history = h; begins = refl; sends = sym (append-nil (sent h).newest.sends) }
grown (suc n) {s = s} h o =
    let g = grown n (called_one h o) o in
    record {
      calls = g.calls;
      history = g.history;
      begins = g.begins;
      sends = g.sends ∙ append_assoc (sent h).newest.sends (send_on s ∷ []) (sends_on n (advanced s));
    }
