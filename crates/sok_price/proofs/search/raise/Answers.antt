use Rattle.sok_price.proofs.Words.{ℕ, ◌≢◌, ◌<◌, ◌∙◌, sym, subst, List, length, with_items_is, AreRaised, Branch, branch_at}
use Rattle.sok_price.proofs.{Branching.goal-within, Branching.goals-apart, Raising.rise-small, CostRows.AreShort-costs}
use Rattle.sok_price.proofs.search.raise.Goals as goal

pub raise_boxes-requires-clause-small : goal.raise_boxes-requires-clause-small
raise_boxes-requires-clause-small c = rise-small (AreShort-costs c.requires.costs) c.requires.growing c.requires.next

pub raise_goals-requires-clause-small : goal.raise_goals-requires-clause-small
raise_goals-requires-clause-small c = rise-small (AreShort-costs c.requires.costs) c.requires.growing c.requires.next

pub raise_goals-requires-clause-exist : goal.raise_goals-requires-clause-exist
raise_goals-requires-clause-exist c = subst (λ (T : Type 0). T) (λ i. (at : ℕ) → 0 < at → at < length (sym c.deref-2.ensures.value i)
    → (branch_at (sym c.deref-2.ensures.value i) at).goal < length (sym c.deref_mut-2.ensures.value i)) (goal-within c.requires.growing)

pub raise_goals-requires-clause-apart : goal.raise_goals-requires-clause-apart
raise_goals-requires-clause-apart c = subst (λ (bs : List Branch). (at to : ℕ) → 0 < at → at < to → to < length bs
    → (branch_at bs at).goal ≢ (branch_at bs to).goal) (sym c.deref-2.ensures.value) (goals-apart c.requires.growing)

pub returns-clause-raised : goal.returns-clause-raised
returns-clause-raised c =
    let old = c.args.search.now in
    let total = c.args.near.slack.rise in
    let boxes = sym (with_items_is old.u c.raise_boxes.new.prices (c.raise_boxes.auto.prices ∙ c.deref_mut.ensures.len)) in
    let goals = sym (with_items_is old.v c.raise_goals.new.prices (c.raise_goals.auto.prices ∙ c.deref_mut-2.ensures.len)) in
    record {
      boxes = subst (λ (T : Type 0). T) (λ i. AreRaised (λ (b : Branch). b.member) total (c.deref.ensures.value i) 0 (length (c.deref.ensures.value i))
          (c.deref_mut.ensures.value i) (boxes i)) c.raise_boxes.ensures;
      goals = subst (λ (T : Type 0). T) (λ i. AreRaised (λ (b : Branch). b.goal) total (c.deref-2.ensures.value i) 1 (length (c.deref-2.ensures.value i))
          (c.deref_mut-2.ensures.value i) (goals i)) c.raise_goals.ensures;
    }
