-- Words read two by two. The octets of a word x are f x.
use Rattle.std.proofs.Common.{◌≡◌, ℕ, ◌+◌, ◌-◌, ◌<◌, ◌≤◌, List, [], ◌∷◌, map, length, get_or, take, drop, Ok, Err, Result, refl, sym, ap, ◌∙◌, arith}
use Rattle.std.proofs.lemmas.List.{take_rest}
use Rattle.command_line.specs.declared.fault.Fault.{Fault}
use Rattle.outgoing_line.specs.Arguments.{nothing, taken, alone, read_from, arguments_of, parsed}
use Rattle.outgoing_line.specs.declared.arguments.Arguments.{Arguments}
use Rattle.outgoing_line.specs.declared.arguments.Given.{Given}
use Rattle.outgoing_line.specs.declared.arguments.Why.{Why}

-- what follows from what an argument gave
abbrev onwards : ℕ → List (List ℕ) → Result Given Why → Result Given (Fault Why)
onwards at words r = elim r [ Ok g ↦ read_from g (at + 2) words | Err e ↦ Err (record { at = at; why = e }) ]

-- what the first argument of some words gave, and whose fault it is where it gave nothing
abbrev pub by_word : {X : Type 0} → ℕ → Result X Why → Result X (Fault Why)
by_word at (Ok x) = Ok x
by_word at (Err why) = Err (record { at = at; why = why })

module _ {X : Type 0} (f : X → List ℕ) (g : Given) (at : ℕ) where
  pub read_none : (words : List X) → length words < 1 → Ok g ≡ read_from g at (map f words)
  unfolding read_from
  read_none [] few = refl
  read_none (x ∷ words) few = absurd (omega arith)

  pub read_one : (words : List X) (x : X) (e : Why) → 1 ≤ length words → length words < 2 → x ≡ get_or words 0 x → e ≡ alone (f x) → Err (record { at = at; why = e }) ≡ read_from g at (map f words)
  unfolding read_from
  read_one [] x e some few at_0 why = absurd (omega arith)
  read_one (a ∷ []) x e some few at_0 why = ap (λ w. Err (record { at = at; why = w })) (why ∙ ap (λ y. alone (f y)) at_0)
  read_one (a ∷ b ∷ words) x e some few at_0 why = absurd (omega arith)

  read_two : (words : List X) (x y : X) (name value : List ℕ) → 2 ≤ length words → x ≡ get_or words 0 x → y ≡ get_or words 1 y → name ≡ f x → value ≡ f y → onwards at (map f (drop 2 words)) (taken g name (at + 1) value) ≡ read_from g at (map f words)
  unfolding read_from
  read_two [] x y name value some at_0 at_1 of-x of-y = absurd (omega arith)
  read_two (a ∷ []) x y name value some at_0 at_1 of-x of-y = absurd (omega arith)
  read_two (a ∷ b ∷ words) x y name value some at_0 at_1 of-x of-y =
      ap (λ n. onwards at (map f words) (taken g n (at + 1) value)) (of-x ∙ ap f at_0) ∙ ap (λ v. onwards at (map f words) (taken g (f a) (at + 1) v)) (of-y ∙ ap f at_1)

  pub read_on : (words : List X) (x y : X) (name value : List ℕ) (g' : Given) → 2 ≤ length words → x ≡ get_or words 0 x → y ≡ get_or words 1 y → name ≡ f x → value ≡ f y → Ok g' ≡ taken g name (at + 1) value → read_from g' (at + 2) (map f (take (length words - 2) (drop 2 words))) ≡ read_from g at (map f words)
  read_on words x y name value g' some at_0 at_1 of-x of-y e =
      ap (λ ws. read_from g' (at + 2) (map f ws)) (take_rest words 2) ∙ ap (onwards at (map f (drop 2 words))) e ∙ read_two words x y name value some at_0 at_1 of-x of-y

  pub read_fault : (words : List X) (x y : X) (name value : List ℕ) (r : Result Given Why) (e : Fault Why) → 2 ≤ length words → x ≡ get_or words 0 x → y ≡ get_or words 1 y → name ≡ f x → value ≡ f y → r ≡ taken g name (at + 1) value → by_word at r ≡ Err e → Err e ≡ read_from g at (map f words)
  read_fault words x y name value (Ok g') e some at_0 at_1 of-x of-y is fault = absurd (cc)
  read_fault words x y name value (Err why) e some at_0 at_1 of-x of-y is fault =
      sym fault ∙ ap (onwards at (map f (drop 2 words))) is ∙ read_two words x y name value some at_0 at_1 of-x of-y

-- what all words gave is what they ask for
pub asked : (words : List (List ℕ)) (g : Given) → read_from nothing 0 words ≡ Ok g → Ok (arguments_of g) ≡ parsed words
asked words g e = sym (ap (λ r. elim r as (λ _. Result Arguments (Fault Why)) [ Ok g' ↦ Ok (arguments_of g') | Err why ↦ Err why ]) e)
