-- Cells and octets, one more.
use Rattle.std.proofs.Common.{◌≡◌, ℕ, ◌+◌, [], ◌∷◌, None, sym, subst}
use Rattle.ring.specs.declared.ring.Ring.{Ring}
use Rattle.receiver.specs.declared.event.EventRecord.{EventRecord}
use Rattle.damaged_line.specs.Damage as damage
use Rattle.damaged_line.specs.Tally as tally
use Rattle.damaged_line.specs.Tally.{added}
use Rattle.damaged_line.specs.Trial.{CellWent, Came, Passed, Noised}
use Rattle.damaged_line.specs.Trial as trial
use Rattle.damaged_line.specs.declared.damage.Damage.{Damage}
use Rattle.damaged_line.specs.declared.tally.Tally.{Tally}
use Rattle.damaged_line.specs.declared.trial.Trial.{Trial}

module _ (t : Trial) (q : Ring EventRecord) where
  pub passed_none : (counts : Tally) → counts ≡ tally.none → Passed 0 t q counts t q
  passed_none counts e = subst (λ (c : Tally). Passed 0 t q c t q) (sym e) trial.no_cell

  pub noised_none : (counts : Tally) → counts ≡ tally.none → Noised 0 t q counts t q
  noised_none counts e = subst (λ (c : Tally). Noised 0 t q c t q) (sym e) trial.no_octet

  pub passed_more : (n : ℕ) (t' t'' : Trial) (q' q'' : Ring EventRecord) (counts now counts' : Tally) (d : Damage) → Passed n t q counts t' q' → d ≡ damage.none
      → CellWent d t' q' now t'' q'' → counts' ≡ added counts now → Passed (n + 1) t q counts' t'' q''
  passed_more n t' t'' q' q'' counts now counts' d before none went e =
      subst (λ (c : Tally). Passed (n + 1) t q c t'' q'') (sym e) (trial.one_cell before (subst (λ (x : Damage). CellWent x t' q' now t'' q'') none went))

  pub noised_more : (n : ℕ) (t' t'' : Trial) (q' q'' : Ring EventRecord) (counts now counts' : Tally) → Noised n t q counts t' q'
      → Came (0xA5 ∷ []) None t' q' now t'' q'' → counts' ≡ added counts now → Noised (n + 1) t q counts' t'' q''
  noised_more n t' t'' q' q'' counts now counts' before came e = subst (λ (c : Tally). Noised (n + 1) t q c t'' q'') (sym e) (trial.one_octet before came)
