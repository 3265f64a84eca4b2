-- The first line of a pattern that numbers make, and back.
use Rattle.std.proofs.Common.{ℕ, ◌≡◌, ◌+◌, List, [], ◌∷◌, ◌++◌, Some, None, true, ◌==◌, if◌then◌else◌}
use Rattle.std.proofs.Common.{length, option_map, slice_index, suc, zero, take, sym, ap, ◌∙◌, refl, subst, arith}
use Rattle.std.proofs.lemmas.Bool.{eqb-true}
use Rattle.std.proofs.lemmas.Bool.Decides.{nat_tests}
use Rattle.std.proofs.lemmas.List.{take_at, get_or_push, length-take, length_push}
use Rattle.std.specs.Option.{option_and_then}
use Rattle.std.proofs.lemmas.Option.{none-some, option_and_then_some, cond_some}
use Rattle.sok_entry.specs.declared.head.Head.{Head}
use Rattle.sok_entry.specs.Text.{numbers_of_head}
use Rattle.sok_entry.specs.Entries.{Front, counts_of, front_of, head_behind, head_of}
use Rattle.sok_entry.proofs.EntryNumbers.{front_of-numbers, front_of-some, mapped}

-- the counts behind the boxes
abbrev numbers_of_counts : List ℕ × ℕ → List ℕ
numbers_of_counts counts = length counts.0 ∷ counts.0 ++ counts.1 ∷ []

counts_of-numbers : (counts : List ℕ × ℕ) → counts_of (numbers_of_counts counts) ≡ Some counts
unfolding counts_of
counts_of-numbers (members, count) =
    let all = members ++ count ∷ [] in
    let enough : length all == length members + 1 ≡ true = grind (arith, nat_tests, length_push members count) in
    ap (λ b. if b then Some (take (length members) all, slice_index all (length members)) else None) enough
    ∙ (λ i. Some (take_at members (count ∷ []) (length members) refl i, get_or_push members count 0 (length members) refl i))

-- all but the last of some numbers, and the last
but_last : (ns : List ℕ) (n : ℕ) → length ns ≡ n + 1 → ns ≡ take n ns ++ slice_index ns n ∷ []
but_last [] n long = absurd (omega arith)
but_last (first ∷ []) zero long = refl
but_last (first ∷ second ∷ ns) zero long = absurd (omega arith)
but_last (first ∷ ns) (suc n) long = ap (λ more. first ∷ more) (but_last ns n (omega arith))

counts_of-some : (ns : List ℕ) (counts : List ℕ × ℕ) → counts_of ns ≡ Some counts → ns ≡ numbers_of_counts counts
unfolding counts_of
counts_of-some [] counts same = absurd (none-some counts same)
counts_of-some (count ∷ more) counts same =
    let found = cond_some (length more == count + 1) (take count more, slice_index more count) counts same in
    let long : length more ≡ count + 1 = eqb-true (length more) (count + 1) found.0 in
    let counted : length (take count more) ≡ count = omega (arith, length-take count more) in
    let made : count ∷ more ≡ numbers_of_counts (take count more, slice_index more count) = (λ i. sym counted i ∷ but_last more count long i) in
    subst (λ cs. count ∷ more ≡ numbers_of_counts cs) found.1 made

-- the first line that the numbers of a first line make is the line itself
pub head_of-numbers : (h : Head) → head_of (numbers_of_head h) ≡ Some h
unfolding head_of
head_of-numbers h =
    let front : Front = record { depth = h.depth; player = h.player; boxes = h.boxes; more = numbers_of_counts (h.members, h.count) } in
    let make : List ℕ × ℕ → Head = λ counts. record { depth = h.depth; player = h.player; boxes = h.boxes; members = counts.0; count = counts.1 } in
    ap (option_and_then head_behind) (front_of-numbers front) ∙ ap (option_map make) (counts_of-numbers (h.members, h.count))

-- and no other numbers make it
pub head_of-some : (ns : List ℕ) (h : Head) → head_of ns ≡ Some h → ns ≡ numbers_of_head h
unfolding head_of
head_of-some ns h same = option_and_then_some head_behind (front_of ns) h same (λ front is made.
    let make : List ℕ × ℕ → Head = λ counts. record { depth = front.depth; player = front.player; boxes = front.boxes; members = counts.0; count = counts.1 } in
    let found = mapped make (counts_of front.more) h made in
    let numbers : ns ≡ numbers_of_head (make found.0) = front_of-some ns front is
    ∙ ap (λ rest. front.depth ∷ front.player ∷ length front.boxes ∷ front.boxes ++ rest) (counts_of-some front.more found.0 found.1) in
    subst (λ x. ns ≡ numbers_of_head x) found.2 numbers)
