-- The check octet of a header, and the syndrome of the 40 bits that a line carries of it.
--
--   check_octet h         the check octet (HEC) of the header h
--   LeavesCheckOctet h c  c is the one remainder of x^8 times the header h, with 0x55 added
--   syndrome h c          of the header h with c received in the place of its check octet; 0 where c is its check octet
use Rattle.std.specs.Prelude.{◌≡◌, ℕ, ◌*◌, ◌^◌, bit_xor}
use Rattle.cell.specs.Polynomial.{remainder, TheRemainder}

-- the remainder of x^8 times the header, with 0x55 added so that a run of zeros is not a header
abbrev pub check_octet : ℕ → ℕ
check_octet h = bit_xor (remainder 32 (h * 2 ^ 8)) 0x55

pub record LeavesCheckOctet (h c : ℕ) : Type 0 where
  pub rest : ℕ
  pub only : TheRemainder (h * 2 ^ 8) rest
  pub added : c ≡ bit_xor rest 0x55

abbrev pub syndrome : ℕ → ℕ → ℕ
syndrome h c = bit_xor (check_octet h) c
