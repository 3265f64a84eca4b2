-- There is one answer at most, where there is one to each board.
use Rattle.std.proofs.Common.{◌∙◌, Err, sym, ap, subst}
use Rattle.sok_rules.specs.Squares.{Rows}
use Rattle.sok_board.specs.Area.{BoardView}
use Rattle.sok_board.proofs.OneRefusal.{IsAcceptable-accepted, IsAccepted-one, IsRefused-acceptable, IsRefused-one}
use Rattle.sok_engine.specs.Faults.{of_board}
use Rattle.sok_engine.specs.Written.{Answers, HasOne}
use Rattle.sok_judge.specs.Boards.{OnBoard, refused, accepted}

pub OnBoard-one : (P : BoardView → Answers) → ((b : BoardView) → HasOne (P b)) → (rows : Rows) → HasOne (OnBoard P rows)
OnBoard-one P one rows a b (refused f f_is is_f a_is) (refused g g_is is_g b_is) = a_is
    ∙ ap (λ h. Err (of_board h)) (IsRefused-one rows f g f_is g_is is_f is_g) ∙ sym b_is
OnBoard-one P one rows a b (refused f f_is is_f a_is) (accepted c c_rows is_c answered) =
    absurd (IsRefused-acceptable rows f f_is is_f (IsAcceptable-accepted rows c c_rows is_c))
OnBoard-one P one rows a b (accepted c c_rows is_c answered) (refused f f_is is_f b_is) =
    absurd (IsRefused-acceptable rows f f_is is_f (IsAcceptable-accepted rows c c_rows is_c))
OnBoard-one P one rows a b (accepted c c_rows is_c answered_a) (accepted d d_rows is_d answered_b) =
    one d a b (subst (λ e. P e a) (IsAccepted-one c d (c_rows ∙ sym d_rows) is_c is_d) answered_a) answered_b
