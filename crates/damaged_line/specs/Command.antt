-- What a line spells, by its octets: a word for the command, and what stands behind it.
--
--   skipped line    the line is empty or a comment: it begins with # (35)
--   octet_of text   the number below 256 that a text spells, if it spells one
--   Spells line c   c is the command that the line spells, or it spells none and c is None
--   Reads line r    r is that command, or none where the line is skipped, or the error where it is not and spells none
--   command_text c  what is printed of the command c, as octets of text
use Rattle.std.specs.Prelude.{◌≡◌, ℕ, ◌^◌, Bool, true, false, cond, List, [], ◌∷◌, ◌++◌, Some, None, Ok, Err, codes, decimal, Option, option_map, Result, ◌==◌, ◌≢◌, nat_lt}
use Rattle.text.specs.Number.{number_of}
use Rattle.text.specs.Words.{first_word, other_words}
use Rattle.cell.specs.LineHeader.{octet_text}
use Rattle.scrambler.specs.Generator.{phase_text}
use Rattle.damaged_line.specs.Damage.{damage_of, damage_text}
use Rattle.damaged_line.specs.declared.command.Command.{Command}
use Rattle.damaged_line.specs.declared.command.Command.TheVariants.{Pass, Turn, Noise, Start, F3, Reset}
use Rattle.damaged_line.specs.declared.command.Malformed.{Malformed}

abbrev pub skipped : List ℕ → Bool
skipped [] = true
skipped (c ∷ line) = c == 35

abbrev pub octet_of : List ℕ → Option ℕ
octet_of text = elim (number_of text) [ None ↦ None | Some n ↦ cond (nat_lt n (2 ^ 8)) (Some n) None ]

pub data Spells (line : List ℕ) (c : Option Command) : Type 0 where
  of_pass : first_word line ≡ codes "pass" → c ≡ option_map Pass (number_of (other_words line)) → Spells line c
  of_turn : first_word line ≡ codes "turn" → c ≡ option_map Turn (damage_of (other_words line)) → Spells line c
  of_noise : first_word line ≡ codes "noise" → c ≡ option_map Noise (number_of (other_words line)) → Spells line c
  of_start : first_word line ≡ codes "start" → c ≡ option_map Start (number_of (other_words line)) → Spells line c
  of_f3 : first_word line ≡ codes "f3" → c ≡ option_map F3 (octet_of (other_words line)) → Spells line c
  of_reset : line ≡ codes "reset" → c ≡ Some Reset → Spells line c
  of_none : (first_word line ≢ codes "pass") → (first_word line ≢ codes "turn") → (first_word line ≢ codes "noise")
      → (first_word line ≢ codes "start") → (first_word line ≢ codes "f3") → (line ≢ codes "reset") → c ≡ None → Spells line c

abbrev pub Reads : List ℕ → Result (Option Command) Malformed → Type 0
Reads line (Ok None) = skipped line ≡ true
Reads line (Ok (Some c)) = (skipped line ≡ false) × Spells line (Some c)
Reads line (Err e) = (skipped line ≡ false) × Spells line None

abbrev pub command_text : Command → List ℕ
command_text (Pass n) = codes "pass " ++ decimal n
command_text (Turn d) = codes "turn" ++ damage_text d
command_text (Noise n) = codes "noise " ++ decimal n
command_text (Start p) = codes "start 0x" ++ phase_text p
command_text (F3 o) = codes "f3 0x" ++ octet_text o
command_text Reset = codes "reset"
