use Rattle.sok_price.proofs.Words.{◌≡◌, ◌+◌, ◌∙◌, ◌++◌, ◌∷◌, [], cond, sym, ap, Bool, List, ℕ, true, false, filter, range_with_len, append-nil}
use Rattle.sok_price.proofs.Words.{filter-range_more, is_met, members_of}
use Rattle.sok_price.proofs.assign.members_in.Goals as goal
use Rattle.sok_price.proofs.assign.members_in.Goals.{then-is_in+in_ok-push, else-is_in}

pub loop-member-preserved : goal.loop-member-preserved
loop-member-preserved c =
    let member = c.loop-member.member in
    let test = is_met c.args.branches.now in
    let so_far = filter test (range_with_len 0 member) in
    let more : (found : Bool) → c.is_in.result ≡ found → so_far ++ cond found (member ∷ []) [] ≡ members_of c.args.branches.now (member + 1) =
    λ found is. ap (λ b. so_far ++ cond b (member ∷ []) []) (sym is ∙ c.is_in.ensures) ∙ sym (filter-range_more test member) in
    elim c.if-is_in.branch [
      | then-is_in+in_ok-push w ↦ (λ i. (w.members-is i).items) ∙ w.in_ok-push.ensures.items
          ∙ ap (λ (xs : List ℕ). xs ++ member ∷ []) c.loop-member.invariant ∙ more true w.if-is_in.true
      | else-is_in w ↦ (λ i. (w.members-is i).items) ∙ c.loop-member.invariant ∙ sym (append-nil so_far) ∙ more false w.if-is_in.false
    ]
