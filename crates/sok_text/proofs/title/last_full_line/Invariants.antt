use Rattle.std.proofs.Common.{◌≡◌, find, length, not, option_map, reverse}
use Rattle.std.specs.List.{list_all}
use Rattle.std.specs.Option.{option_or}
use Rattle.std.specs.Str.Lines.{lines}
use Rattle.sok_text.specs.Titles.{is_space}
use Rattle.sok_text.proofs.title.last_full_line.Given as goal

abbrev pub invariant-loop-rest : goal.invariant-loop-rest
invariant-loop-rest l =
    option_or (find (λ line. not (list_all is_space line)) (reverse (lines l.rest))) (option_map (λ line. line.now) l.last)
    ≡ find (λ line. not (list_all is_space line)) (reverse (lines l.notes))

abbrev pub decreases-loop-rest : goal.decreases-loop-rest
decreases-loop-rest l = length l.rest
