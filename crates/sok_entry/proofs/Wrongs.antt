-- Lines go wrong in one way at most.
use Rattle.std.proofs.Common.{ℕ, ◌≡◌, ◌≢◌, ◌<◌, ◌≤◌, ◌+◌, List, [], ◌∷◌, ◌++◌, All, inl, inr, length, drop, map, sym, ap, ◌∙◌, subst, arith}
use Rattle.std.proofs.lemmas.Bool.{cases_lt}
use Rattle.std.proofs.lemmas.List.{length-map}
use Rattle.std.proofs.lemmas.List.Elements.{All-head, All-tail}
use Rattle.sok_entry.specs.declared.entry.Entry.{Entry}
use Rattle.sok_entry.specs.declared.entry.Inner.{Inner}
use Rattle.sok_entry.specs.declared.fault.CertFault.{CertFault}
use Rattle.sok_entry.specs.declared.fault.CertFault.TheVariants.{Truncated, Line}
use Rattle.sok_entry.specs.declared.head.Head.{Head}
use Rattle.sok_entry.specs.declared.head.Opening.{Opening}
use Rattle.sok_entry.specs.declared.head.Opening.TheVariants.{Begun}
use Rattle.sok_entry.specs.declared.version.Version.{Version}
use Rattle.sok_entry.specs.declared.version.Version.TheVariants.{Two}
use Rattle.sok_entry.specs.Text.{entry_line, entry_lines, head_line, inner_line, inner_of, last_line, FitsEntry, FitsInner, FitsVersion}
use Rattle.sok_entry.specs.Reading.{Begins, IsUnfinished, unfinished_lines, IsWrong, missing, cut, other, behind, inside, IsWrongInside, missing_inside}
use Rattle.sok_entry.specs.Reading.{cut_inside, other_inside}
use Rattle.sok_entry.proofs.Openings.{begins, begun, begun-lines, last_is_no_entry, last_is_no_head, opened, plain-head, same_head, whole}

pub no_lines : (front : List (List ℕ)) (line : List ℕ) (more : List (List ℕ)) → front ++ line ∷ more ≡ [] → ⊥
no_lines [] line more same = omega (arith, ap length same)
no_lines (first ∷ front) line more same = omega (arith, ap length same)

pub nothing_behind : (front rest : List (List ℕ)) → front ++ rest ≡ [] → rest ≡ []
nothing_behind [] rest same = same
nothing_behind (line ∷ front) rest same = absurd (omega (arith, ap length same))

-- ---- inside a pattern

-- behind the fewer lines of inner positions stands one more
record GoesOn (left more : List (List ℕ)) : Type 0 where
  inner : Inner
  fits : FitsInner inner
  tail : List (List ℕ)
  is : left ≡ inner_line inner ∷ tail ++ more

goes_on : (is js : List Inner) (left more : List (List ℕ)) → All FitsInner js → length is < length js → map inner_line is ++ left ≡ map inner_line js ++ more
    → GoesOn left more
goes_on [] [] left more fit few same = absurd (omega arith)
goes_on [] (j ∷ js) left more fit few same = record { inner = j; fits = All-head FitsInner j js fit; tail = map inner_line js; is = same }
goes_on (i ∷ is) [] left more fit few same = absurd (omega arith)
goes_on (i ∷ is) (j ∷ js) left more fit few same = goes_on is js left more (All-tail FitsInner j js fit) (omega arith) (ap (drop 1) same)

-- behind as many stands the same
same_rest : (is js : List Inner) (rs ss : List (List ℕ)) → length is ≡ length js → map inner_line is ++ rs ≡ map inner_line js ++ ss → rs ≡ ss
same_rest [] [] rs ss many same = same
same_rest [] (j ∷ js) rs ss many same = absurd (omega arith)
same_rest (i ∷ is) [] rs ss many same = absurd (omega arith)
same_rest (i ∷ is) (j ∷ js) rs ss many same = same_rest is js rs ss (omega arith) (ap (drop 1) same)

-- what is wrong where nothing is left
inside_nothing : (ended n : ℕ) (rest : List (List ℕ)) (fault : CertFault) → rest ≡ [] → IsWrongInside ended n rest fault → fault ≡ Truncated
inside_nothing ended n rest fault none (missing_inside nothing is_fault) = is_fault
inside_nothing ended n rest fault none (cut_inside line one few is_fault) = is_fault
inside_nothing ended n rest fault none (other_inside line more one no_inner many is_fault) = absurd (omega (arith, ap length (sym none ∙ one)))

-- what is wrong where an inner position follows is that the text ends with it
inside_goes : (ended n : ℕ) (rest more : List (List ℕ)) (fault : CertFault) (i : Inner) → FitsInner i → rest ≡ inner_line i ∷ more
    → IsWrongInside ended n rest fault → (fault ≡ Truncated) × (more ≡ [])
inside_goes ended n rest more fault i fits is (missing_inside none is_fault) = absurd (omega (arith, ap length (sym is ∙ none)))
inside_goes ended n rest more fault i fits is (cut_inside line one few is_fault) = (is_fault, ap (drop 1) (sym is ∙ one))
inside_goes ended n rest more fault i fits is (other_inside line behind_line one no_inner many is_fault) =
    let same : inner_line i ∷ more ≡ line ∷ behind_line = sym is ∙ one in
    let first : line ≡ inner_line i = cc in
    absurd (no_inner i (fits, first))

-- where one text goes on inside, what is wrong is its end
inside_ends : (ended n : ℕ) (left more : List (List ℕ)) (fault : CertFault) → GoesOn left more → IsWrongInside ended n left fault → (fault ≡ Truncated) × (more ≡ [])
inside_ends ended n left more fault on wrong =
    let ends = inside_goes ended n left (on.tail ++ more) fault on.inner on.fits on.is wrong in
    (ends.0, nothing_behind on.tail more ends.1)

-- the fault where the last line has no end
inside_cut : (ended n : ℕ) (rest : List (List ℕ)) (line : List ℕ) (fault : CertFault) → rest ≡ line ∷ [] → ended ≤ n → IsWrongInside ended n rest fault
    → fault ≡ Truncated
inside_cut ended n rest line fault is few (missing_inside none is_fault) = is_fault
inside_cut ended n rest line fault is few (cut_inside another one also_few is_fault) = is_fault
inside_cut ended n rest line fault is few (other_inside another more one no_inner many is_fault) = absurd (omega arith)

-- the fault where a line has its end
inside_other : (ended n : ℕ) (rest more : List (List ℕ)) (line : List ℕ) (fault : CertFault) → rest ≡ line ∷ more → n < ended
    → IsWrongInside ended n rest fault → fault ≡ Line (3 + n)
inside_other ended n rest more line fault is many (missing_inside none is_fault) = absurd (omega (arith, ap length (sym is ∙ none)))
inside_other ended n rest more line fault is many (cut_inside another one few is_fault) = absurd (omega arith)
inside_other ended n rest more line fault is many (other_inside another rest_more one no_inner also_many is_fault) = is_fault

IsWrongInside-one : (ended n : ℕ) (rest : List (List ℕ)) (f g : CertFault) → IsWrongInside ended n rest f → IsWrongInside ended n rest g → f ≡ g
IsWrongInside-one ended n rest f g (missing_inside none is_f) of_g = is_f ∙ sym (inside_nothing ended n rest g none of_g)
IsWrongInside-one ended n rest f g (cut_inside line one few is_f) of_g = is_f ∙ sym (inside_cut ended n rest line g one few of_g)
IsWrongInside-one ended n rest f g (other_inside line more one no_inner many is_f) of_g = is_f ∙ sym (inside_other ended n rest more line g one many of_g)

-- ---- where an entry belongs

-- what is wrong where an entry follows is that the text ends with it
pub wrong_entry : (version : Version) (ended n : ℕ) (rest more : List (List ℕ)) (fault : CertFault) (e : Entry) → FitsEntry e → FitsVersion version e
    → rest ≡ entry_lines e ++ more → IsWrong version ended n rest fault → (fault ≡ Truncated) × (more ≡ [])
wrong_entry version ended n rest more fault e fits allowed is (missing none is_fault) = absurd (omega (arith, ap length (sym is ∙ none)))
wrong_entry version ended n rest more fault e fits allowed is (cut line one not_last few is_fault) =
    (is_fault, nothing_behind (map inner_line (inner_of e.reason)) more (ap (drop 1) (sym is ∙ one)))
wrong_entry version ended n rest more fault e fits allowed is (other line behind_line one not_last no_entry many is_fault) =
    let same : entry_line e ∷ map inner_line (inner_of e.reason) ++ more ≡ line ∷ behind_line = sym is ∙ one in
    let first : entry_line e ≡ line = cc in
    let opening = begins version e fits allowed in
    absurd (no_entry opening.0 (subst (λ l. Begins version l opening.0) first opening.1))
wrong_entry version ended n rest more fault e fits allowed is (behind line behind_line one is_fault) =
    let same : entry_line e ∷ map inner_line (inner_of e.reason) ++ more ≡ last_line ∷ line ∷ behind_line = sym is ∙ one in
    let first : last_line ≡ entry_line e = cc in
    absurd (last_is_no_entry e fits first)
wrong_entry version ended n rest more fault e fits allowed is (inside h given left second unfinished one wrong) = elim (opened version e fits allowed) [
  | whole simple ↦
      let same : entry_line e ∷ map inner_line (inner_of e.reason) ++ more ≡ head_line h ∷ map inner_line given ++ left = sym is ∙ one in
      let first : entry_line e ≡ head_line h = cc in
      absurd (plain-head e h simple first)
  | begun k inner also_second head_fits inner_fit many is_e ↦
      let same : head_line k ∷ map inner_line inner ++ more ≡ head_line h ∷ map inner_line given ++ left =
      sym (ap (λ x. entry_lines x ++ more) is_e ∙ ap (λ ls. ls ++ more) (begun-lines k inner many)) ∙ sym is ∙ one in
      let first : head_line k ≡ head_line h = cc in
      let heads = same_head k h head_fits unfinished.head_fits first in
      let few : length given < length inner = omega (arith, unfinished.more_belong, many, ap (λ x. x.count) heads) in
      inside_ends ended (n + length (unfinished_lines h given)) left more fault (goes_on given inner left more inner_fit few (ap (drop 1) (sym same))) wrong
]

-- what is wrong where nothing follows
pub wrong_nothing : (version : Version) (ended n : ℕ) (rest : List (List ℕ)) (fault : CertFault) → rest ≡ [] → IsWrong version ended n rest fault → fault ≡ Truncated
wrong_nothing version ended n rest fault none (missing nothing is_fault) = is_fault
wrong_nothing version ended n rest fault none (cut line one not_last few is_fault) = is_fault
wrong_nothing version ended n rest fault none (other line more one not_last no_entry many is_fault) = absurd (omega (arith, ap length (sym none ∙ one)))
wrong_nothing version ended n rest fault none (behind line more one is_fault) = absurd (omega (arith, ap length (sym none ∙ one)))
wrong_nothing version ended n rest fault none (inside h given left second unfinished one wrong) = absurd (omega (arith, ap length (sym none ∙ one)))

-- nothing is wrong with `end` alone
pub nothing_wrong : (version : Version) (ended n : ℕ) (rest : List (List ℕ)) (fault : CertFault) → rest ≡ last_line ∷ [] → IsWrong version ended n rest fault → ⊥
nothing_wrong version ended n rest fault last (missing none is_fault) = omega (arith, ap length (sym last ∙ none))
nothing_wrong version ended n rest fault last (cut line one not_last few is_fault) =
    let same : last_line ∷ [] ≡ line ∷ [] = sym last ∙ one in
    let first : line ≡ last_line = cc in
    not_last first
nothing_wrong version ended n rest fault last (other line more one not_last no_entry many is_fault) =
    let same : last_line ∷ [] ≡ line ∷ more = sym last ∙ one in
    let first : line ≡ last_line = cc in
    not_last first
nothing_wrong version ended n rest fault last (behind line more one is_fault) = omega (arith, ap length (sym last ∙ one))
nothing_wrong version ended n rest fault last (inside h given left second unfinished one wrong) =
    let same : last_line ∷ [] ≡ head_line h ∷ map inner_line given ++ left = sym last ∙ one in
    let first : last_line ≡ head_line h = cc in
    last_is_no_head h first

-- the fault where one line is left that has no end
wrong_cut : (version : Version) (ended n : ℕ) (rest : List (List ℕ)) (line : List ℕ) (fault : CertFault) → rest ≡ line ∷ [] → ended ≤ n
    → IsWrong version ended n rest fault → fault ≡ Truncated
wrong_cut version ended n rest line fault is few (missing none is_fault) = is_fault
wrong_cut version ended n rest line fault is few (cut another one not_last also_few is_fault) = is_fault
wrong_cut version ended n rest line fault is few (other another more one not_last no_entry many is_fault) = absurd (omega arith)
wrong_cut version ended n rest line fault is few (behind another more one is_fault) = absurd (omega (arith, ap length (sym is ∙ one)))
wrong_cut version ended n rest line fault is few (inside h given left second unfinished one wrong) =
    let same : line ∷ [] ≡ head_line h ∷ map inner_line given ++ left = sym is ∙ one in
    inside_nothing ended (n + length (unfinished_lines h given)) left fault (nothing_behind (map inner_line given) left (ap (drop 1) (sym same))) wrong

-- the fault where a line that has its end begins no entry, and is not `end`
wrong_other : (version : Version) (ended n : ℕ) (rest more : List (List ℕ)) (line : List ℕ) (fault : CertFault) → rest ≡ line ∷ more → line ≢ last_line
    → ((o : Opening) → Begins version line o → ⊥) → n < ended → IsWrong version ended n rest fault → fault ≡ Line (3 + n)
wrong_other version ended n rest more line fault is not_last none many (missing nothing is_fault) = absurd (omega (arith, ap length (sym is ∙ nothing)))
wrong_other version ended n rest more line fault is not_last none many (cut another one also few is_fault) = absurd (omega arith)
wrong_other version ended n rest more line fault is not_last none many (other another rest_more one also no_entry also_many is_fault) = is_fault
wrong_other version ended n rest more line fault is not_last none many (behind another rest_more one is_fault) =
    let same : line ∷ more ≡ last_line ∷ another ∷ rest_more = sym is ∙ one in
    let first : line ≡ last_line = cc in
    absurd (not_last first)
wrong_other version ended n rest more line fault is not_last none many (inside h given left second unfinished one wrong) =
    let same : line ∷ more ≡ head_line h ∷ map inner_line given ++ left = sym is ∙ one in
    let first : line ≡ head_line h = cc in
    absurd (none (Begun h) (subst (λ v. Begins v line (Begun h)) (sym second) (unfinished.head_fits, first)))

-- the fault where a line stands behind `end`
wrong_behind : (version : Version) (ended n : ℕ) (rest more : List (List ℕ)) (line : List ℕ) (fault : CertFault) → rest ≡ last_line ∷ line ∷ more
    → IsWrong version ended n rest fault → fault ≡ Line (4 + n)
wrong_behind version ended n rest more line fault is (missing none is_fault) = absurd (omega (arith, ap length (sym is ∙ none)))
wrong_behind version ended n rest more line fault is (cut another one not_last few is_fault) = absurd (omega (arith, ap length (sym is ∙ one)))
wrong_behind version ended n rest more line fault is (other another rest_more one not_last no_entry many is_fault) =
    let same : last_line ∷ line ∷ more ≡ another ∷ rest_more = sym is ∙ one in
    let first : another ≡ last_line = cc in
    absurd (not_last first)
wrong_behind version ended n rest more line fault is (behind another rest_more one is_fault) = is_fault
wrong_behind version ended n rest more line fault is (inside h given left second unfinished one wrong) =
    let same : last_line ∷ line ∷ more ≡ head_line h ∷ map inner_line given ++ left = sym is ∙ one in
    let first : last_line ≡ head_line h = cc in
    absurd (last_is_no_head h first)

-- two readings of one pattern that is begun
wrong_begun : (ended n : ℕ) (h k : Head) (is js : List Inner) (ls ms : List (List ℕ)) (f g : CertFault) → IsUnfinished h is → IsUnfinished k js
    → unfinished_lines h is ++ ls ≡ unfinished_lines k js ++ ms
    → IsWrongInside ended (n + length (unfinished_lines h is)) ls f → IsWrongInside ended (n + length (unfinished_lines k js)) ms g → f ≡ g
wrong_begun ended n h k is js ls ms f g of_h of_k same wrong_f wrong_g =
    let rest : map inner_line is ++ ls ≡ map inner_line js ++ ms = ap (drop 1) same in
    elim (cases_lt (length is) (length js)) [
      | inl fewer ↦
          let ends = inside_ends ended (n + length (unfinished_lines h is)) ls ms f (goes_on is js ls ms of_k.inner_fits fewer rest) wrong_f in
          ends.0 ∙ sym (inside_nothing ended (n + length (unfinished_lines k js)) ms g ends.1 wrong_g)
      | inr no_fewer ↦ elim (cases_lt (length js) (length is)) [
        | inl more ↦
            let ends = inside_ends ended (n + length (unfinished_lines k js)) ms ls g (goes_on js is ms ls of_h.inner_fits more (sym rest)) wrong_g in
            inside_nothing ended (n + length (unfinished_lines h is)) ls f ends.1 wrong_f ∙ sym ends.0
        | inr no_more ↦
            let many : length is ≡ length js = omega arith in
            let places : n + length (unfinished_lines h is) ≡ n + length (unfinished_lines k js) =
            omega (arith, many, length-map is inner_line, length-map js inner_line) in
            let lefts = same_rest is js ls ms many rest in
            IsWrongInside-one ended (n + length (unfinished_lines k js)) ms f g
            (subst (λ x. IsWrongInside ended (n + length (unfinished_lines k js)) x f) lefts (subst (λ p. IsWrongInside ended p ls f) places wrong_f)) wrong_g
      ]
    ]

-- the fault where a pattern is begun
wrong_inside : (version : Version) (ended n : ℕ) (rest left : List (List ℕ)) (h : Head) (given : List Inner) (f g : CertFault) → version ≡ Two
    → IsUnfinished h given → rest ≡ unfinished_lines h given ++ left
    → IsWrongInside ended (n + length (unfinished_lines h given)) left f → IsWrong version ended n rest g → f ≡ g
wrong_inside version ended n rest left h given f g second unfinished is wrong (missing none is_g) = absurd (omega (arith, ap length (sym is ∙ none)))
wrong_inside version ended n rest left h given f g second unfinished is wrong (cut line one not_last few is_g) =
    let same : head_line h ∷ map inner_line given ++ left ≡ line ∷ [] = sym is ∙ one in
    inside_nothing ended (n + length (unfinished_lines h given)) left f (nothing_behind (map inner_line given) left (ap (drop 1) same)) wrong ∙ sym is_g
wrong_inside version ended n rest left h given f g second unfinished is wrong (other line more one not_last no_entry many is_g) =
    let same : head_line h ∷ map inner_line given ++ left ≡ line ∷ more = sym is ∙ one in
    let first : line ≡ head_line h = cc in
    absurd (no_entry (Begun h) (subst (λ v. Begins v line (Begun h)) (sym second) (unfinished.head_fits, first)))
wrong_inside version ended n rest left h given f g second unfinished is wrong (behind line more one is_g) =
    let same : head_line h ∷ map inner_line given ++ left ≡ last_line ∷ line ∷ more = sym is ∙ one in
    let first : last_line ≡ head_line h = cc in
    absurd (last_is_no_head h first)
wrong_inside version ended n rest left h given f g second unfinished is wrong (inside k js ms also_second also_unfinished one wrong_g) =
    wrong_begun ended n h k given js left ms f g unfinished also_unfinished (sym is ∙ one) wrong wrong_g

pub IsWrong-one : (version : Version) (ended n : ℕ) (rest : List (List ℕ)) (f g : CertFault) → IsWrong version ended n rest f → IsWrong version ended n rest g
    → f ≡ g
IsWrong-one version ended n rest f g (missing none is_f) of_g = is_f ∙ sym (wrong_nothing version ended n rest g none of_g)
IsWrong-one version ended n rest f g (cut line one not_last few is_f) of_g = is_f ∙ sym (wrong_cut version ended n rest line g one few of_g)
IsWrong-one version ended n rest f g (other line more one not_last no_entry many is_f) of_g =
    is_f ∙ sym (wrong_other version ended n rest more line g one not_last no_entry many of_g)
IsWrong-one version ended n rest f g (behind line more one is_f) of_g = is_f ∙ sym (wrong_behind version ended n rest more line g one of_g)
IsWrong-one version ended n rest f g (inside h given left second unfinished one wrong) of_g =
    wrong_inside version ended n rest left h given f g second unfinished one wrong of_g
