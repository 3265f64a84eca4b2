use Rattle.sok_price.proofs.Words.{◌≡◌, ◌<◌, ◌∙◌, refl, sym, ap, subst, List, arith, length, get_or, SwappedAt, IsPermutation, get_or_default, length_push}
use Rattle.sok_price.proofs.Words.{IsPermutation-swap, Branch, Growth, growth_of, branch_at}
use Rattle.sok_price.proofs.Rematching.{IsPath, IsPath-begun, IsPath-swapped, IsRematched-path}
use Rattle.sok_price.proofs.search.rematch.Goals as goal

pub loop-at-init : goal.loop-at-init
loop-at-init c =
    let g = growth_of c.args.search.now in (
      refl,
      c.requires.from,
      ap length c.append.ensures.items ∙ length_push g.goal_of c.args.near.goal,
      λ members room. record { tree = room.tree; matching = omega (arith, room.matching, c.append.ensures.room) },
      λ cost members goals floor matched tight reached. subst (IsPath cost g c.args.near.slack.from) (sym c.append.ensures.items)
          (IsPath-begun cost members goals floor g c.args.near matched c.requires.tree reached),
    )

pub loop-at-preserved : goal.loop-at-preserved
loop-at-preserved c =
    let g = growth_of c.args.search.now in
    let at = c.loop-at.at in
    let before = c.loop-at.search.goal_of.items in
    let after = c.swap.new.self.items in
    let (same, within, long, room, path) = c.loop-at.invariant in
    let branches_are : c.loop-at.search.branches.items ≡ g.branches = ap (λ (h : Growth). h.branches) same in
    let branch = c.index-branch.result.now in
    let branch_is : branch ≡ branch_at g.branches at =
    c.index-branch.ensures ∙ ap (λ (bs : List Branch). get_or bs at branch) branches_are
    ∙ sym (get_or_default g.branches at (record { member = 0; goal = 0; parent = 0; rise = 0 }) branch within) in
    let later : 0 < at = omega arith in
    let root_is : c.len-root.result ≡ length g.goal_of = omega arith in
    let member_is : branch.member ≡ (branch_at g.branches at).member = ap (λ (b : Branch). b.member) branch_is in
    let parent_is : branch.parent ≡ (branch_at g.branches at).parent = ap (λ (b : Branch). b.parent) branch_is in
    let swapped : SwappedAt before after (branch_at g.branches at).member (length g.goal_of) =
    subst (λ m. SwappedAt before after m (length g.goal_of)) member_is (subst (SwappedAt before after branch.member) root_is c.swap.ensures.by_index) in
    let whole : length after ≡ length before = let kept = c.swap.ensures.len in omega arith in
    let earlier = c.requires.tree.earlier at later within in
    let permuted : IsPermutation before after =
    IsPermutation-swap before after branch.member c.len-root.result (omega (arith, earlier, member_is, long))
    (omega (arith, root_is, long)) c.swap.ensures.items in
    let first = c.requires.tree.before at later within in (
      ap (λ (h : Growth). record h { goal_of = after }) same,
      omega (arith, first, parent_is, within),
      whole ∙ long,
      λ members before_room. let old = room members before_room in
          record { tree = old.tree; matching = omega (arith, c.swap.ensures.capacity, old.matching) },
      λ cost members goals floor matched tight reached. subst (λ k. IsPath cost g k after) (sym parent_is)
          (IsPath-swapped cost g at before after c.requires.tree tight within later
          (path cost members goals floor matched tight reached) whole swapped permuted),
    )

pub returns-clause-rematched : goal.returns-clause-rematched
returns-clause-rematched c = λ cost members goals floor matched tight reached.
    let g = growth_of c.args.search.now in
    let (same, within, long, room, path) = c.loop-at.invariant in
    let root : c.loop-at.at ≡ 0 = omega arith in
    IsRematched-path cost g c.loop-at.search.goal_of.items c.requires.tree
    (subst (λ k. IsPath cost g k c.loop-at.search.goal_of.items) root (path cost members goals floor matched tight reached))

pub returns-clause-room : goal.returns-clause-room
returns-clause-room c = let (_, _, _, room, _) = c.loop-at.invariant in room
