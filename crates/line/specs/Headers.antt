-- The headers that a receiving end has seen since its last hunt, the newest in front; each is a number of 40 bits.
--
--   hunting a          the end hunts
--   ending a           the next bit may end a header: the end hunts, or 39 bits of the next header have come
--   headers s hs bs    the headers since the last hunt after the bits bs, where they were hs before them. The header that ends a hunt
--                      is counted after it; one that begins a hunt leaves none (noted: by whether a header ended, and the end hunts)
--   phase_on p hs      the phase p of the cell before the headers hs, moved on by a cell for each of them
--   as_predicted p hs  how many of the headers hs agree and have the samples U(t - 211) and U(t + 1), where p is the phase before them
--   samples_from hs    the samples of the headers hs as one number, two bits for each, the oldest on top
--   Sixteen hs         among the headers hs stand sixteen in a row that agree, and the last 31 of their samples are those of one phase
--                      and no other
--   Preceded hs        so they do, and of the headers after them at least eight agree and have the samples of that phase, moved on.
--                      Other headers may lie among the eight
use Rattle.std.specs.Prelude.{◌≡◌, ℕ, ◌+◌, ◌*◌, ◌%◌, ◌^◌, ◌≤◌, Bool, true, false, cond, List, [], ◌∷◌, ◌++◌, length, ◌==◌}
use Rattle.std.specs.List.{AllByRecursion}
use Rattle.scrambler.specs.Finder.{OnePhase}
use Rattle.scrambler.specs.Generator.{next_phase}
use Rattle.tracker.specs.declared.state.Place.{Place}
use Rattle.tracker.specs.declared.state.Place.TheVariants.{Hunt, Payload, Header}
use Rattle.tracker.specs.declared.tracker.Tracker.{Tracker}
use Rattle.tracker.specs.Window.{agrees, samples_in, predicted}
use Rattle.tracker.specs.Rules.{both}
use Rattle.receiver.specs.Run.{step}

abbrev pub hunting : Place → Bool
hunting Hunt = true
hunting (Payload o b k l) = false
hunting (Header n l) = false

abbrev pub ending : Place → Bool
ending Hunt = true
ending (Payload o b k l) = false
ending (Header n l) = n == 0

abbrev pub noted : Bool → Bool → ℕ → List ℕ → List ℕ
noted false h w hs = hs
noted true true w hs = []
noted true false w hs = w ∷ hs

abbrev pub headers : Tracker → List ℕ → List Bool → List ℕ
headers s hs [] = hs
headers s hs (b ∷ bs) =
    headers (step s b) (noted (ending s.control.place) (hunting (step s b).control.place) (step s b).window.bits hs) bs

abbrev pub phase_on : ℕ → List ℕ → ℕ
phase_on p [] = p
phase_on p (h ∷ hs) = next_phase (phase_on p hs)

abbrev pub as_predicted : ℕ → List ℕ → ℕ
as_predicted p [] = 0
as_predicted p (h ∷ hs) = cond (both (agrees h) (samples_in h == predicted (phase_on p (h ∷ hs)))) 1 0 + as_predicted p hs

abbrev pub samples_from : List ℕ → ℕ
samples_from [] = 0
samples_from (h ∷ hs) = samples_from hs * 2 ^ 2 + samples_in h

pub record Sixteen (hs : List ℕ) : Type 0 where
  pub later : List ℕ
  pub row : List ℕ
  pub earlier : List ℕ
  pub split : hs ≡ later ++ (row ++ earlier)
  pub count : length row ≡ 16
  pub agree : AllByRecursion (λ h. agrees h ≡ true) row
  pub phase : ℕ
  pub gave : OnePhase (samples_from row % 2 ^ 31) phase

pub record Preceded (hs : List ℕ) : Type 0 where
  pub sixteen : Sixteen hs
  pub eight : 8 ≤ as_predicted sixteen.phase sixteen.later
