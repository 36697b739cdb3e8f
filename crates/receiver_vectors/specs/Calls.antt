-- What a line of the input spells: a word for the call, and the words behind it.
--
--   RingText text k   k is the ring whose places the text counts, or the text spells no number and k is None
--   SplitText text k  k has the boundary and the places that the text spells, or it spells none and k is None
--   SinkText text k   k is the sink that the text spells, or it spells none and k is None
--   EndText text c    c makes an end as the text spells it, or it spells none and c is None
--   FeedText text c   c feeds the octets that the text spells, or it spells none and c is None
--   Reads line c      c is the call that the line spells, or it spells none and c is None
use Rattle.std.specs.Prelude.{◌≡◌, ℕ, ◌⊎◌, List, Some, None, vec_items, codes, Option, ◌≢◌}
use Rattle.hex_digits.specs.Digits.{SpellsOctets}
use Rattle.text.specs.Words.{first_word, other_words}
use Rattle.receiver_vectors.specs.Number.{Number}
use Rattle.receiver_vectors.specs.declared.calls.SinkKind.{SinkKind}
use Rattle.receiver_vectors.specs.declared.calls.SinkKind.TheVariants.{Ring, Closed, Split}
use Rattle.receiver_vectors.specs.declared.calls.Call.{Call}
use Rattle.receiver_vectors.specs.declared.calls.Call.TheVariants.{End, Feed, Reset}

abbrev pub RingText : List ℕ → Option SinkKind → Type 0
RingText text (Some (Ring n)) = Number text (Some n)
RingText text (Some Closed) = ⊥
RingText text (Some (Split b n)) = ⊥
RingText text None = Number text None

abbrev pub SplitText : List ℕ → Option SinkKind → Type 0
SplitText text (Some (Split b n)) = Number (first_word text) (Some b) × Number (other_words text) (Some n)
SplitText text (Some Closed) = ⊥
SplitText text (Some (Ring n)) = ⊥
SplitText text None = Number (first_word text) None ⊎ Number (other_words text) None

pub data SinkText (text : List ℕ) (k : Option SinkKind) : Type 0 where
  of_ring : first_word text ≡ codes "ring" → RingText (other_words text) k → SinkText text k
  of_split : first_word text ≡ codes "split" → SplitText (other_words text) k → SinkText text k
  of_closed : text ≡ codes "closed" → k ≡ Some Closed → SinkText text k
  of_none : (first_word text ≢ codes "ring") → (first_word text ≢ codes "split") → (text ≢ codes "closed") → k ≡ None → SinkText text k

abbrev pub EndText : List ℕ → Option Call → Type 0
EndText text (Some (End events k)) = Number (first_word text) (Some events) × SinkText (other_words text) (Some k)
EndText text (Some (Feed v)) = ⊥
EndText text (Some Reset) = ⊥
EndText text None = Number (first_word text) None ⊎ SinkText (other_words text) None

abbrev pub FeedText : List ℕ → Option Call → Type 0
FeedText text (Some (Feed v)) = SpellsOctets text (vec_items v)
FeedText text (Some (End events k)) = ⊥
FeedText text (Some Reset) = ⊥
FeedText text None = (xs : List ℕ) → SpellsOctets text xs → ⊥

pub data Reads (line : List ℕ) (c : Option Call) : Type 0 where
  of_end : first_word line ≡ codes "end" → EndText (other_words line) c → Reads line c
  of_feed : first_word line ≡ codes "feed" → FeedText (other_words line) c → Reads line c
  of_reset : line ≡ codes "reset" → c ≡ Some Reset → Reads line c
  of_none : (first_word line ≢ codes "end") → (first_word line ≢ codes "feed") → (line ≢ codes "reset") → c ≡ None → Reads line c
