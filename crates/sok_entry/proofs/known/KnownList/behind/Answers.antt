use Rattle.std.proofs.Common.{◌≡◌, ◌≢◌, ◌++◌, ℕ, List, Option, Some, None, MatchOption, length, rules, subst}
use Rattle.std.proofs.lemmas.Bool.Decides.{Decides-eqb}
use Rattle.std.proofs.lemmas.Slice.Eq.{strip_prefix_is}
use Rattle.sok_entry.proofs.known.KnownList.behind.Goals as goal

-- what is behind a front, where the count is right too
with-count : {R : Type 0} (now : R → List ℕ) (text front : List ℕ) (Counted : Type 0) (r : Option R) → Counted
    → MatchOption r ((rest : List ℕ) → text ≢ front ++ rest) (λ x. text ≡ front ++ now x)
    → MatchOption r (Counted → (rest : List ℕ) → text ≢ front ++ rest) (λ x. Counted × (text ≡ front ++ now x))
with-count now text front Counted None counted told = λ again. told
with-count now text front Counted (Some x) counted told = (counted, told)

pub returns : goal.returns
returns c =
    let text = c.args.text.now in
    let front = c.as_slice-2.result.now in
    let count = c.args.count in
    let many : length c.args.self.now.inner ≡ count = search rules in
    subst (λ lines. MatchOption c.strip_prefix.result (length c.args.self.now.inner ≡ count → (rest : List ℕ) → text ≢ lines ++ rest)
    (λ rest. (length c.args.self.now.inner ≡ count) × (text ≡ lines ++ rest.now))) c.as_slice-2.ensures.value
    (with-count (λ rest. rest.now) text front (length c.args.self.now.inner ≡ count) c.strip_prefix.result many
    (strip_prefix_is Decides-eqb text front c.strip_prefix.result c.strip_prefix.ensures.cases))
