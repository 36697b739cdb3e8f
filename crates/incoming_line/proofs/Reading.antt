-- Words read one by one. The octets of a word x are f x.
use Rattle.std.proofs.Common.{◌≡◌, ℕ, ◌+◌, ◌<◌, ◌≤◌, List, map, length, get_or, drop, Ok, Err, Result, sym, ap, ◌∙◌}
use Rattle.std.proofs.lemmas.List.{at_drop_more, at_drop_all}
use Rattle.command_line.specs.declared.fault.Fault.{Fault}
use Rattle.incoming_line.specs.Arguments.{taken, read_from}
use Rattle.incoming_line.specs.declared.arguments.Arguments.{Arguments}
use Rattle.incoming_line.specs.declared.arguments.Why.{Why}

-- what follows from what a word gave
abbrev onwards : ℕ → List (List ℕ) → Result Arguments Why → Result Arguments (Fault Why)
onwards at words r = elim r [ Ok g ↦ read_from g (at + 1) words | Err e ↦ Err (record { at = at; why = e }) ]

-- what a word gave, and that it is at fault where it gave nothing
abbrev pub by_word : {X : Type 0} → ℕ → Result X Why → Result X (Fault Why)
by_word at (Ok x) = Ok x
by_word at (Err why) = Err (record { at = at; why = why })

module _ {X : Type 0} (f : X → List ℕ) (g : Arguments) (at : ℕ) (words : List X) where
  pub read_none : length words ≤ at → Ok g ≡ read_from g at (map f (drop at words))
  unfolding read_from
  read_none none = sym (at_drop_all (λ ws. read_from g at (map f ws)) words at none)

  module _ (x : X) (word : List ℕ) (some : at < length words) (stands : x ≡ get_or words at x) (of-x : word ≡ f x) where
    read_one : onwards at (map f (drop (at + 1) words)) (taken g word) ≡ read_from g at (map f (drop at words))
    unfolding read_from
    read_one =
        ap (λ w. onwards at (map f (drop (at + 1) words)) (taken g w)) (of-x ∙ ap f stands)
        ∙ sym (at_drop_more (λ ws. read_from g at (map f ws)) words at x some)

    pub read_on : (g' : Arguments) → Ok g' ≡ taken g word → read_from g' (at + 1) (map f (drop (at + 1) words)) ≡ read_from g at (map f (drop at words))
    read_on g' took = ap (onwards at (map f (drop (at + 1) words))) took ∙ read_one

    pub read_fault : (r : Result Arguments Why) (e : Fault Why) → r ≡ taken g word → by_word at r ≡ Err e → Err e ≡ read_from g at (map f (drop at words))
    read_fault (Ok g') e is fault = absurd (cc)
    read_fault (Err why) e is fault = sym fault ∙ ap (onwards at (map f (drop (at + 1) words))) is ∙ read_one
