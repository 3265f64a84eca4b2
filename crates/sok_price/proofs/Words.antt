-- The words that the proofs of this crate use: those of std, of the crates below, and of its own specs.
pub use Rattle.std.proofs.Common.{All, AllPairs, Bool, Contains, IfOk, IfSome, List, None, Option, Some, [], ap, arith, below_more, cond, drop, false, filter}
pub use Rattle.std.proofs.Common.{get_or, inl, inr, length, map, min, refl, replicate, rules, set, subst, suc, sum, sum_by, sym, take, true, true≢false, zero}
pub use Rattle.std.proofs.Common.{ℕ, ◌*◌, ◌++◌, ◌+◌, ◌-◌, ◌<◌, ◌==◌, ◌||◌, ◌∙◌, ◌∷◌, ◌≡◌, ◌≢◌, ◌≤◌, ◌⊎◌}
pub use Rattle.std.proofs.lemmas.Bool.{cases_Bool, cases_eq, cases_lt, false_from_ne_true, or_cases, or_from, or_left}
pub use Rattle.std.proofs.lemmas.List.{append-nil, append_assoc, get_or-append_right, get_or-drop, get_or-map, get_or-replicate, get_or-set_other}
pub use Rattle.std.proofs.lemmas.List.{get_or-set_same, get_or-take, get_or_append_left, get_or_default, get_or_push, length-append, length-drop, length-map}
pub use Rattle.std.proofs.lemmas.List.{length-replicate, length-set, length_push, map-append, take_more, with_items_is}
pub use Rattle.std.proofs.lemmas.List.Elements.{All-contains, All-from_get_or, All-head, All-push, All-set, All-tail, All-weaker, Contains-append_left}
pub use Rattle.std.proofs.lemmas.List.Elements.{Contains-get_or}
pub use Rattle.std.proofs.lemmas.List.Sums.{count_by-le-length, length-filter, sum-map, sum_by-cons, sum_by-le, sum_by-set}
pub use Rattle.std.proofs.lemmas.Option.{IfSome_then, get_or_from_slice_get, none-some, same_Some, slice_get-get_or, slice_get_within}
pub use Rattle.std.proofs.{Math.Nat.mul-le-mul_left, lemmas.Bool.Decides.Decides-eqb, lemmas.Bool.Decides.nat_tests, lemmas.Grind.common_steps}
pub use Rattle.std.proofs.{lemmas.List.Folds.Any-from_list_any, lemmas.List.Folds.list_any_at, lemmas.List.Folds.sum_by-replicate}
pub use Rattle.std.proofs.{lemmas.List.FromFn.get_or-range_with_len, lemmas.List.FromFn.length-range_with_len, lemmas.List.Kept.AllPairs-cons}
pub use Rattle.std.proofs.{lemmas.List.Kept.AllPairs-from_increasing, lemmas.List.Quantifiers.all_pairs_push, lemmas.List.Sorted.All-permutation}
pub use Rattle.std.proofs.{lemmas.List.Sorted.Contains-permutation, lemmas.List.Sorted.IsPermutation-swap, lemmas.Map.Made.IsDistinct-from_AllPairs}
pub use Rattle.std.proofs.{lemmas.Map.Steps.length-le_from_distinct_below, lemmas.Map.Views.Contains-from_any}
pub use Rattle.std.specs.{Cmp.both_ways, List.SwappedAt, List.range_with_len, List.Sorted.IsPermutation, List.Sorted.IsStrictlyIncreasing, Option.IsSomeAnd}
pub use Rattle.std.specs.{Option.option_and_then, Option.option_map_or}
pub use Rattle.sok_rules.proofs.{Moved.moved-come, Moved.moved-left, Moved.moved-other, Spots.same_spot-is, Spots.same_spot-refl, Steps.IsPush, Steps.push_step}
pub use Rattle.sok_rules.proofs.{Steps.walk_step, Walking.Same-refl, Walking.boxes-Same}
pub use Rattle.sok_rules.specs.Play.{After, AllOnGoals, Position, SolvesFrom, moved, one_if, pushes, run, start, step}
pub use Rattle.sok_rules.specs.{Squares.holds, Squares.is_box, Squares.is_goal, Squares.next, Squares.same_spot, States.Same, declared.cell.Dir.Dir, declared.cell.Spot.Spot}
pub use Rattle.sok_board.proofs.{Accepted.decoration-outside, AreaLaws.InArea-next, AreaLaws.InArea-spot_of, AreaLaws.number-InArea, AreaLaws.same_number, Confined.confines-play}
pub use Rattle.sok_board.proofs.{Lists.AllPairs-head, Lists.AllPairs-tail, Lists.Contains-filter, Lists.Contains-from_filter, Numbering.Contains-goals_of}
pub use Rattle.sok_board.proofs.{Numbering.below-chosen, Numbering.filter-range_more, Numbering.rising-chosen, Positions.among_numbers}
pub use Rattle.sok_board.proofs.Positions.{known_box, position_of-start}
pub use Rattle.sok_board.specs.Area.{InArea, IsArea, BoardView, boxes_of, goals_of, is_among, is_decoration, position_of, spot_of}
pub use Rattle.sok_board.specs.{BoxSets.IsMoved, Limits.square_limit}
pub use Rattle.sok_distance.proofs.{PushingLaws.lone_push-push}
pub use Rattle.sok_distance.specs.{Distances.goal_at, Pushing.Chain, Pushing.TellsDistance, Pushing.lone_push, Pushing.lone_pushes}
unfoldable pub use Rattle.sok_price.specs.Costs.{cost_in}
pub use Rattle.sok_price.specs.Costs.{AreCosts, AreOfBoxes, AreSmall, AreTold, IsRow, TellCosts, TellsCost, cost_of}
unfoldable pub use Rattle.sok_price.specs.Exchanges.{moved_from}
pub use Rattle.sok_price.specs.Kept.{AreExactly, AreKept, AreListed, AreMarksOf, AreRead, AreRows, AreSet, AreTabled, IsBounded, IsChange, IsMovedTo, IsShaped}
pub use Rattle.sok_price.specs.Matched.{CanMove, HasWorth, Holds, IsCopied, IsMatchedTo, KeptMatching, Serves, TellsLeast}
pub use Rattle.sok_price.specs.Matchings.{AreFair, AreTight, Costing, IsMatched, IsTight, TellsTaker, low}
unfoldable pub use Rattle.sok_price.specs.Searches.{joined}
pub use Rattle.sok_price.specs.Searches.{Growth, HasRoom, IsAhead, IsBegun, IsGrowing, IsNext, IsRaised, IsReached, IsReady, IsRematched, IsSeen, KeepsRoom}
pub use Rattle.sok_price.specs.Searches.{ReachesNoOther, Rematches, TellsEnd, TellsNext, growth_of}
unfoldable pub use Rattle.sok_price.specs.Slacks.{closer, smaller}
pub use Rattle.sok_price.specs.Trees.{AreRaised, AreRises, AreTaken, GoesTight, IsBound, IsSlack, IsTree, branch_at, is_marked, is_met, members_of}
pub use Rattle.sok_price.specs.{Exchanges.AreMoved, Exchanges.IsWhole, Exchanges.Tells, Laws.ArePlaced, Matches.ArePrices, Matches.HasPrices, Matches.IsMatch}
pub use Rattle.sok_price.specs.{Prices.IsAssignment, Prices.IsCrowd, Prices.Priced, Slacks.TellsNearest, Slacks.slack_at, Slacks.unreached}
pub use Rattle.sok_price.specs.{declared.assign.Match.Match, declared.assign.Match.TheVariants.Crowd, declared.assign.Match.TheVariants.Prices}
pub use Rattle.sok_price.specs.{declared.costs.Costs.Costs, declared.search.Branch.Branch, declared.search.PathSearch.PathSearch, declared.slacks.Near.Near}
pub use Rattle.sok_price.specs.{declared.slacks.Slack.Slack}
