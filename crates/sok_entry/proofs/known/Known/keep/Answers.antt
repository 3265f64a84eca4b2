use Rattle.std.proofs.Common.{◌≡◌, ◌++◌, ◌∷◌, ◌∙◌, [], All, Contains, List, Option, Some, None, MatchOption, ap, is_some, length, refl, sym, subst, true, false, true≢false, arith, rules}
use Rattle.std.proofs.lemmas.List.{append-nil, length-map, map_push}
use Rattle.sok_entry.specs.declared.entry.Inner.{Inner}
use Rattle.sok_entry.specs.declared.known.KnownList.{KnownList}
use Rattle.sok_entry.specs.Known.{MayBeKept, added, byte_count, full, known, positions_of}
use Rattle.sok_entry.specs.Text.{FitsInner, inner_text}
use Rattle.sok_entry.proofs.KnownLists.{same_inner}
use Rattle.sok_entry.proofs.known.Known.keep.Goals as goal
use Rattle.sok_entry.proofs.known.Known.keep.Goals.{After-at, then-len-ge-LISTS-via-then-len-ge-LISTS, then-len-ge-LISTS-via-else-len-ge-LISTS+then-not-all_fit}

-- what is known of a value that is there
there : {T : Type 0} (P : Type 0) (Q : T → Type 0) (found : Option T) → is_some found ≡ true → MatchOption found P Q → (x : T) × Q x
there P Q None some told = absurd (true≢false (sym some))
there P Q (Some x) some told = (x, told)

-- and what is known where there is none
missing : {T : Type 0} (P : Type 0) (Q : T → Type 0) (found : Option T) → is_some found ≡ false → MatchOption found P Q → P
missing P Q None none told = told
missing P Q (Some x) none told = absurd (true≢false none)

pub returns-then-len-ge-LISTS-clause-kept : goal.returns-then-len-ge-LISTS-clause-kept
returns-then-len-ge-LISTS-clause-kept c =
    let lists = c.self.inside.lists.items in
    let positions : KnownList → List Inner = λ k. k.inner in
    elim c.then-len-ge-LISTS.branch [
      | then-len-ge-LISTS-via-then-len-ge-LISTS w ↦
          let count : c.len.result ≡ length lists = search rules in
          full (λ may. omega (arith, count, may.few, w.if-len-ge-LISTS.true, ap length c.self.view_is, length-map lists positions)) refl
      | then-len-ge-LISTS-via-else-len-ge-LISTS+then-not-all_fit w ↦
          full (λ may.
          let fit = w.all_fit.ensures.1 (subst (All FitsInner) (sym c.as_slice-positions.ensures) may.fits) in
          true≢false (sym fit ∙ w.if-not-all_fit.true)) refl
    ]

-- the lines that were spelled are those of the list
spelled : (c : After-at) → c.deref.result.now ≡ inner_text c.args.inner.now
spelled c =
    c.deref.ensures.value ∙ c.in_ok-push_inner_lines.ensures.lines ∙ (λ i. c.new-lines.ensures.items i ++ inner_text (c.as_slice-positions.ensures i))

pub returns-then-is_some-clause-kept : goal.returns-then-is_some-clause-kept
returns-then-is_some-clause-kept c =
    let inner = c.args.inner.now in
    let (found, front) = there _ _ c.at.result (sym c.is_some.ensures ∙ c.if-is_some.true) c.at.ensures in
    let fits = subst (All FitsInner) c.as_slice-positions.ensures (c.all_fit.ensures.0 c.if-not-all_fit.false) in
    let same = same_inner inner found.0.now found.1.now fits front.fits (front.many ∙ ap length c.as_slice-positions.ensures)
    (sym (spelled (goal.at.returns-then-is_some-clause-kept c).After-at) ∙ front.begins) in
    known (subst (Contains c.args.self.now) (sym same) front.known) refl

pub returns-clause-kept : goal.returns-clause-kept
returns-clause-kept c =
    let inner = c.args.inner.now in
    let lists = c.self.inside.lists.items in
    let positions : KnownList → List Inner = λ k. k.inner in
    let lines = spelled (goal.at.returns-clause-kept c).After-at in
    let count : c.len.result ≡ length lists = search rules in
    let size : c.len-2.result ≡ length c.push_inner_lines.new.text.items = search rules in
    let absent = missing _ _ c.at.result (sym c.is_some.ensures ∙ c.if-is_some.false) c.at.ensures in
    let may : MayBeKept c.args.self.now inner = record {
      fits = subst (All FitsInner) c.as_slice-positions.ensures (c.all_fit.ensures.0 c.if-not-all_fit.false);
      few = omega (arith, count, c.if-len-ge-LISTS.false, ap length c.self.view_is, length-map lists positions);
      room = omega (arith, c.self.invariant.room, ap byte_count c.self.view_is, size, ap length lines, ap length c.deref.ensures.value, c.in-Some.ensures);
    } in
    added (λ is_known. absent inner is_known (sym (ap length c.as_slice-positions.ensures)) [] (lines ∙ sym (append-nil (inner_text inner)))) may
    (ap positions_of c.in_ok-push.ensures.items ∙ map_push positions lists (record { inner = c.in_ok-inner.inner; lines = c.push_inner_lines.new.text })
    ∙ (λ i. c.self.view_is i ++ c.in_ok-inner.ensures i ∷ []))
