-- What holds of a book after some of its levels were settled.
use Rattle.std.proofs.Common.{ℕ, ℤ, pos, zero, suc, ◌≡◌, ◌≢◌, ◌⊎◌, ◌∙◌, ◌+◌, ◌-◌, ◌<◌, ◌≤◌, inl, inr, List, [], Some, Bool, true, Ok, Err}
use Rattle.std.proofs.Common.{ap, arith, refl, slice_get, subst, sym}
use Rattle.std.proofs.lemmas.Bool.{and_parts, cases_lt}
use Rattle.std.proofs.lemmas.Option.{none-some, same_Some}
use Rattle.sok_rules.specs.declared.cell.Dir.{Dir}
use Rattle.sok_rules.specs.Squares.{Rows}
use Rattle.sok_cert.specs.Claim.{Claim}
use Rattle.sok_cert.specs.Claim.TheVariants as claim
use Rattle.sok_book.specs.declared.record.Verdict.TheVariants.{Optimal, Untested, Unsolvable}
use Rattle.sok_book.specs.declared.record.Offer.{Offer}
use Rattle.sok_book.specs.Books.{Book, Page, page_at, solution_of}
use Rattle.sok_book.specs.Commands.{Offers, SetsVerdict, judge, offer, verdict_of, with_best}
use Rattle.sok_engine.specs.declared.fault.ToolFault.TheVariants as tool
use Rattle.sok_store.specs.Calls.{id_number}
use Rattle.sok_store.specs.Histories.{IsMadeOf}
use Rattle.sok_store.specs.Histories as histories
use Rattle.sok_store.proofs.Found.{page_there}
use Rattle.sok_settle.specs.declared.settle.Span.{Span}
use Rattle.sok_settle.specs.Going.{more, none}
use Rattle.sok_settle.specs.Keeping.{Keeping}
use Rattle.sok_settle.specs.Settles.{IsBeyond, IsTried, EndsLevel, SettlesBy, SettlesFirst, SettlesLevel, is_passed, is_past_limit, is_settled, is_too_long, level_leave, level_step}
use Rattle.sok_settle.specs.Laws.{SettledHaveCerts, SettledHaveVerdicts, SettlingsAreSome, SettlingsFold, SettlingsKeepTruth, SettlingsKeepVerdicts}
use Rattle.sok_settle.proofs.Levels.{best_untested}
use Rattle.sok_settle.proofs.Settling.{else_offered, else_settled, first_stays, stays}
use Rattle.sok_settle.proofs.Stepping.{ends_some, made_true, some_made}

-- ---- what was written

pub settlings-are-some : (keeping : Keeping) → SettlingsAreSome keeping
settlings-are-some keeping limit span book after old new (Ok status) it =
    let (end, same, told, written) = it.ended in (it.count, it.text, it.all, it.before, it.gone, inl same)
settlings-are-some keeping limit span book after old new (Err tool.BadLimit) it = let (bad, none_done, same, keeps) = it.ended in (0, [], true, book, none, inl same)
settlings-are-some keeping limit span book after old new (Err fault) it =
    ends_some (level_step keeping limit span) (level_leave keeping limit span) (stays keeping limit span) book it.before after it.count it.text it.all old new fault it.gone it.ended

-- ---- commands

by_made : (id : ℤ) (book before after : Book) (rows : Rows) (shown : Claim) (line : List ℕ) (settled : Bool) → IsMadeOf book before
    → SettlesBy id rows shown before line settled after → IsMadeOf book after
by_made id book before after rows (claim.Pushes n) line settled made (best, count, it, says, is) =
    histories.more it.middle after (histories.more before it.middle made (offer (id_number id) it.letters it.offer it.offered))
    (judge (id_number id) (claim.Pushes best.pushes) it.set)
by_made id book before after rows claim.Unsolvable line settled made (unsolvable, sets, says, is) =
    histories.more before after made (judge (id_number id) claim.Unsolvable sets)

level_made : (keeping : Keeping) (limit : ℕ) (span : Span) (id : ℤ) (book before after : Book) (line : List ℕ) (settled : Bool) → IsMadeOf book before
    → SettlesLevel keeping limit span id before line settled after → IsMadeOf book after
level_made keeping limit span id book before after line settled made (is_passed page there why says is same) = subst (IsMadeOf book) (sym same) made
level_made keeping limit span id book before after line settled made (is_settled page shown tried kept by) =
    by_made id book before after page.level shown line settled made by
level_made keeping limit span id book before after line settled made (is_past_limit page least tried cut fewer says is same) = subst (IsMadeOf book) (sym same) made
level_made keeping limit span id book before after line settled made (is_too_long page letters pushes tried least many says is same) =
    subst (IsMadeOf book) (sym same) made

left_made : (span : Span) (id : ℤ) (book before after : Book) → IsMadeOf book before → EndsLevel span id before after → IsMadeOf book after
left_made span id book before after made (inl same) = subst (IsMadeOf book) (sym same) made
left_made span id book before after made (inr (page, tried, letters, answer, offered)) =
    histories.more before after made (offer (id_number id) letters answer offered)

pub settlings-fold : (keeping : Keeping) → SettlingsFold keeping
settlings-fold keeping limit span book after some =
    some_made (level_step keeping limit span) (level_leave keeping limit span)
    (λ n start before later line settled made level. level_made keeping limit span (pos (n + 1)) start before later line settled made level)
    (λ n start before later made left. left_made span (pos (n + 1)) start before later made left) book after some

pub settlings-keep-truth : (keeping : Keeping) → SettlingsKeepTruth keeping
settlings-keep-truth keeping limit span book after some = made_true book after (settlings-fold keeping limit span book after some)

-- ---- levels that are passed over

-- a page that is not tried
abbrev IsKeptAsIs : Span → ℕ → Page → Type 0
IsKeptAsIs span id page = IsBeyond span (pos id) ⊎ (page.verdict ≢ Untested)

untried : (span : Span) (n id : ℕ) (book : Book) (page other : Page) → page_at book id ≡ Some page → IsKeptAsIs span id page → IsTried span (pos (n + 1)) other book
    → n + 1 - 1 ≡ id - 1 → ⊥
untried span n zero book page other there kept tried same = none-some page there
untried span n (suc m) book page other there kept tried same =
    let id : n + 1 ≡ suc m = omega (arith, same) in
    let one : other ≡ page = same_Some other page (sym tried.there ∙ ap (page_at book) id ∙ there) in
    elim kept [
      | inl beyond ↦ tried.within (subst (λ k. IsBeyond span (pos k)) (sym id) beyond)
      | inr tested ↦ tested (ap (λ (p : Page). p.verdict) (sym one) ∙ tried.untested)
    ]

-- a page at another place
at_else : (book after : Book) (place id : ℕ) (page : Page) → page_at book id ≡ Some page → (place ≡ id - 1 → ⊥)
    → ((m : ℕ) → (place ≡ m → ⊥) → slice_get after m ≡ slice_get book m) → page_at after id ≡ Some page
at_else book after place zero page there other else = absurd (none-some page there)
at_else book after place (suc m) page there other else =
    let less : suc m - 1 ≡ m = omega arith in else m (λ same. other (same ∙ sym less)) ∙ there

level_kept : (keeping : Keeping) (limit : ℕ) (span : Span) (n : ℕ) (book after : Book) (line : List ℕ) (settled : Bool) (id : ℕ) (page : Page)
    → SettlesLevel keeping limit span (pos (n + 1)) book line settled after → page_at book id ≡ Some page → IsKeptAsIs span id page → page_at after id ≡ Some page
level_kept keeping limit span n book after line settled id page (is_passed other at why says is same) there kept = ap (λ (b : Book). page_at b id) same ∙ there
level_kept keeping limit span n book after line settled id page (is_settled other shown tried cert by) there kept =
    at_else book after (n + 1 - 1) id page there (untried span n id book page other there kept tried)
    (else_settled keeping limit span (pos (n + 1)) book after line settled (is_settled other shown tried cert by))
level_kept keeping limit span n book after line settled id page (is_past_limit other least tried cut fewer says is same) there kept =
    ap (λ (b : Book). page_at b id) same ∙ there
level_kept keeping limit span n book after line settled id page (is_too_long other letters pushes tried least many says is same) there kept =
    ap (λ (b : Book). page_at b id) same ∙ there

first_kept : (keeping : Keeping) (limit : ℕ) (span : Span) (book : Book) (n : ℕ) (text : List ℕ) (all : Bool) (after : Book) (id : ℕ) (page : Page)
    → SettlesFirst keeping limit span book n text all after → page_at book id ≡ Some page → IsKeptAsIs span id page → page_at after id ≡ Some page
first_kept keeping limit span book _ _ _ _ id page none there kept = there
first_kept keeping limit span book _ _ _ _ id page (more n text line all settled before after first level) there kept =
    level_kept keeping limit span n before after line settled id page level (first_kept keeping limit span book n text all before id page first there kept) kept

left_kept : (span : Span) (n : ℕ) (book after : Book) (id : ℕ) (page : Page) → EndsLevel span (pos (n + 1)) book after → page_at book id ≡ Some page
    → IsKeptAsIs span id page → page_at after id ≡ Some page
left_kept span n book after id page (inl same) there kept = ap (λ (b : Book). page_at b id) same ∙ there
left_kept span n book after id page (inr (other, tried, letters, answer, offered)) there kept =
    at_else book after (n + 1 - 1) id page there (untried span n id book page other there kept tried) (else_offered book after (n + 1) letters answer offered)

pub settlings-keep-verdicts : (keeping : Keeping) → SettlingsKeepVerdicts keeping
settlings-keep-verdicts keeping limit span book after id page (n, text, all, before, first, left) there kept =
    left_kept span n before after id page left (first_kept keeping limit span book n text all before id page first there kept) kept

-- ---- levels that are settled

-- a verdict that was set
verdict_set : (book : Book) (id : ℕ) (shown : Claim) (after : Book) (page : Page) → SetsVerdict book id shown after → page_at after id ≡ Some page
    → verdict_of shown ≡ page.verdict
verdict_set book id shown after page sets there =
    let new : Page = record sets.page { verdict = verdict_of shown } in
    let at : page_at after id ≡ Some new = ap (λ (b : Book). page_at b id) sets.after_is ∙ page_there book id sets.page new sets.there in
    let one : new ≡ page = same_Some new page (sym at ∙ there) in ap (λ (p : Page). p.verdict) one

never_untested : (shown : Claim) → verdict_of shown ≢ Untested
never_untested (claim.Pushes k) is = let no : Optimal ≡ Untested = is in absurd cc
never_untested claim.Unsolvable is = let no : Unsolvable ≡ Untested = is in absurd cc

by_verdict : (id : ℤ) (book after : Book) (rows : Rows) (shown : Claim) (line : List ℕ) (settled : Bool) (page : Page) → SettlesBy id rows shown book line settled after
    → page_at after (id_number id) ≡ Some page → verdict_of shown ≡ page.verdict
by_verdict id book after rows (claim.Pushes n) line settled page (best, count, it, says, is) there = verdict_set it.middle (id_number id) _ after page it.set there
by_verdict id book after rows claim.Unsolvable line settled page (unsolvable, sets, says, is) there = verdict_set book (id_number id) _ after page sets there

-- the level that was gone through has a verdict, or comes before the first
level_tested : (keeping : Keeping) (limit : ℕ) (span : Span) (n : ℕ) (book after : Book) (line : List ℕ) (page : Page)
    → SettlesLevel keeping limit span (pos (n + 1)) book line true after → page_at after (n + 1) ≡ Some page → IsKeptAsIs span (n + 1) page
level_tested keeping limit span n book after line page (is_passed other at why says is same) there =
    let one : other ≡ page = same_Some other page (sym at ∙ ap (λ (b : Book). page_at b (n + 1)) (sym same) ∙ there) in
    subst (IsKeptAsIs span (n + 1)) one why
level_tested keeping limit span n book after line page (is_settled other shown tried kept by) there =
    inr (λ untested. never_untested shown (by_verdict (pos (n + 1)) book after other.level shown line true page by there ∙ untested))
level_tested keeping limit span n book after line page (is_past_limit other least tried cut fewer says is same) there = absurd cc
level_tested keeping limit span n book after line page (is_too_long other letters pushes tried least many says is same) there = absurd cc

else_at : (book after : Book) (place id : ℕ) (page : Page) → page_at after id ≡ Some page → (place ≡ id - 1 → ⊥)
    → ((m : ℕ) → (place ≡ m → ⊥) → slice_get after m ≡ slice_get book m) → page_at book id ≡ Some page
else_at book after place zero page there other else = absurd (none-some page there)
else_at book after place (suc m) page there other else =
    let less : suc m - 1 ≡ m = omega arith in sym (else m (λ same. other (same ∙ sym less))) ∙ there

no_page : (book : Book) (id : ℕ) (page : Page) → id ≤ 0 → page_at book id ≡ Some page → ⊥
no_page book zero page low there = none-some page there
no_page book (suc m) page low there = omega (arith, low)

is_positive : (book : Book) (id : ℕ) (page : Page) → page_at book id ≡ Some page → 0 < id
is_positive book zero page there = absurd (none-some page there)
is_positive book (suc m) page there = omega arith

first_tested : (keeping : Keeping) (limit : ℕ) (span : Span) (book : Book) (n : ℕ) (text : List ℕ) (all : Bool) (after : Book) (id : ℕ) (page : Page)
    → SettlesFirst keeping limit span book n text all after → all ≡ true → id ≤ n → page_at after id ≡ Some page → IsKeptAsIs span id page
first_tested keeping limit span book _ _ _ _ id page none each low there = absurd (no_page book id page low there)
first_tested keeping limit span book _ _ _ _ id page (more n text line all settled before after first level) each low there =
    let (all_is, settled_is) = and_parts all settled each in
    let positive = is_positive after id page there in
    elim (cases_lt id (n + 1)) [
      | inl under ↦
          let other : n + 1 - 1 ≡ id - 1 → ⊥ = λ same. omega (arith, same, under, positive) in
          first_tested keeping limit span book n text all before id page first all_is (omega (arith, under))
          (else_at before after (n + 1 - 1) id page there other (else_settled keeping limit span (pos (n + 1)) before after line settled level))
      | inr over ↦
          let same : id ≡ n + 1 = omega (arith, over, low) in
          subst (λ k. IsKeptAsIs span k page) (sym same)
          (level_tested keeping limit span n before after line page (subst (λ s. SettlesLevel keeping limit span (pos (n + 1)) before line s after) settled_is level)
          (ap (page_at after) (sym same) ∙ there))
    ]

pub settled-have-verdicts : (keeping : Keeping) → SettledHaveVerdicts keeping
settled-have-verdicts keeping limit span book n text after id page first low there = first_tested keeping limit span book n text true after id page first refl low there

-- ---- certificates

-- a page that stays has no verdict then
unchanged : (id : ℕ) (book after : Book) (page new : Page) → after ≡ book → page_at book id ≡ Some page → page_at after id ≡ Some new
    → page.verdict ≡ Untested → new.verdict ≡ Untested
unchanged id book after page new same there then_there untested =
    let one : new ≡ page = same_Some new page (sym then_there ∙ ap (λ (b : Book). page_at b id) same ∙ there) in
    ap (λ (p : Page). p.verdict) one ∙ untested

-- nor has one to which letters are offered
offered_untested : (id : ℕ) (book after : Book) (letters : List Dir) (answer : Offer) (page new : Page) → Offers book id letters answer after
    → page_at book id ≡ Some page → page_at after id ≡ Some new → page.verdict ≡ Untested → new.verdict ≡ Untested
offered_untested id book after letters answer page new it there then_there untested =
    let one : it.page ≡ page = same_Some it.page page (sym it.there ∙ there) in
    let best = with_best it.page (solution_of it.page.level letters) in
    let at : page_at after id ≡ Some best = ap (λ (b : Book). page_at b id) it.after_is ∙ page_there book id it.page best it.there in
    let other : new ≡ best = same_Some new best (sym then_there ∙ at) in
    ap (λ (p : Page). p.verdict) other ∙ best_untested it.page (solution_of it.page.level letters) (ap (λ (p : Page). p.verdict) one ∙ untested)

cases_same : (m n : ℕ) → (m ≡ n) ⊎ (m ≢ n)
cases_same m n = elim (cases_lt m n) [
  | inl under ↦ inr (λ same. omega (arith, under, same))
  | inr over ↦ elim (cases_lt n m) [
    | inl above ↦ inr (λ same. omega (arith, above, same))
    | inr below ↦ inl (omega (arith, over, below))
  ]
]

module _ (keeping : Keeping) (limit : ℕ) (span : Span) where
  -- the claim by which a level has a verdict, of which a certificate was kept
  abbrev HasCert : ℕ → Page → Page → Type 0
  HasCert id page new = (shown : Claim) × (verdict_of shown ≡ new.verdict) × keeping.keeps limit (pos id) page.level shown

  level_cert : (n : ℕ) (book after : Book) (line : List ℕ) (settled : Bool) (page new : Page) → SettlesLevel keeping limit span (pos (n + 1)) book line settled after
      → page_at book (n + 1) ≡ Some page → page_at after (n + 1) ≡ Some new → page.verdict ≡ Untested → new.verdict ≢ Untested → HasCert (n + 1) page new
  level_cert n book after line settled page new (is_passed other at why says is same) there then_there untested tested =
      absurd (tested (unchanged (n + 1) book after page new same there then_there untested))
  level_cert n book after line settled page new (is_settled other shown tried kept by) there then_there untested tested =
      let one : other ≡ page = same_Some other page (sym tried.there ∙ there) in (
        shown,
        by_verdict (pos (n + 1)) book after other.level shown line settled new by then_there,
        subst (λ (p : Page). keeping.keeps limit (pos (n + 1)) p.level shown) one kept,
      )
  level_cert n book after line settled page new (is_past_limit other least tried cut fewer says is same) there then_there untested tested =
      absurd (tested (unchanged (n + 1) book after page new same there then_there untested))
  level_cert n book after line settled page new (is_too_long other letters pushes tried least many says is same) there then_there untested tested =
      absurd (tested (unchanged (n + 1) book after page new same there then_there untested))

  -- the page of the next level is as it was
  next_stays : (book : Book) (n : ℕ) (text : List ℕ) (all : Bool) (before : Book) (page : Page) → SettlesFirst keeping limit span book n text all before
      → page_at book (n + 1) ≡ Some page → page_at before (n + 1) ≡ Some page
  next_stays book n text all before page first there =
      let last : suc n ≡ n + 1 = omega arith in
      let here : page_at book (suc n) ≡ Some page = subst (λ k. page_at book k ≡ Some page) (sym last) there in
      subst (λ k. page_at before k ≡ Some page) last (first_stays keeping limit span book n text all before first n (omega arith) ∙ here)

  first_cert : (book : Book) (n : ℕ) (text : List ℕ) (all : Bool) (after : Book) (id : ℕ) (page new : Page) → SettlesFirst keeping limit span book n text all after
      → page_at book id ≡ Some page → page_at after id ≡ Some new → page.verdict ≡ Untested → new.verdict ≢ Untested → HasCert id page new
  first_cert book _ _ _ _ id page new none there then_there untested tested =
      absurd (tested (unchanged id book book page new refl there then_there untested))
  first_cert book _ _ _ _ id page new (more n text line all settled before after first level) there then_there untested tested =
      elim (cases_same id (n + 1)) [
        | inl same ↦
            let here : page_at book (n + 1) ≡ Some page = subst (λ k. page_at book k ≡ Some page) same there in
            let later : page_at after (n + 1) ≡ Some new = subst (λ k. page_at after k ≡ Some new) same then_there in
            subst (λ k. HasCert k page new) (sym same)
            (level_cert n before after line settled page new level (next_stays book n text all before page first here) later untested tested)
        | inr other ↦
            let positive = is_positive book id page there in
            let else_place : n + 1 - 1 ≡ id - 1 → ⊥ = λ same. other (omega (arith, same, positive)) in
            first_cert book n text all before id page new first there
            (else_at before after (n + 1 - 1) id new then_there else_place (else_settled keeping limit span (pos (n + 1)) before after line settled level)) untested tested
      ]

  left_cert : (book : Book) (n : ℕ) (text : List ℕ) (all : Bool) (before after : Book) (id : ℕ) (page new : Page)
      → SettlesFirst keeping limit span book n text all before → EndsLevel span (pos (n + 1)) before after → page_at book id ≡ Some page
      → page_at after id ≡ Some new → page.verdict ≡ Untested → new.verdict ≢ Untested → HasCert id page new
  left_cert book n text all before after id page new first (inl same) there then_there untested tested =
      first_cert book n text all before id page new first there (ap (λ (b : Book). page_at b id) (sym same) ∙ then_there) untested tested
  left_cert book n text all before after id page new first (inr (other, tried, letters, answer, offered)) there then_there untested tested =
      elim (cases_same id (n + 1)) [
        | inl same ↦
            let here : page_at book (n + 1) ≡ Some page = subst (λ k. page_at book k ≡ Some page) same there in
            let later : page_at after (n + 1) ≡ Some new = subst (λ k. page_at after k ≡ Some new) same then_there in
            absurd (tested (offered_untested (n + 1) before after letters answer page new offered
            (next_stays book n text all before page first here) later untested))
        | inr apart ↦
            let positive = is_positive book id page there in
            let else_place : n + 1 - 1 ≡ id - 1 → ⊥ = λ same. apart (omega (arith, same, positive)) in
            first_cert book n text all before id page new first there
            (else_at before after (n + 1 - 1) id new then_there else_place (else_offered before after (n + 1) letters answer offered)) untested tested
      ]

pub settled-have-certs : (keeping : Keeping) → SettledHaveCerts keeping
settled-have-certs keeping limit span book after id page new (n, text, all, before, first, left) there then_there untested tested =
    left_cert keeping limit span book n text all before after id page new first left there then_there untested tested
