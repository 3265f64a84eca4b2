-- A certificate for a level of a collection is judged on its board, if it has one.
use Rattle.std.proofs.Common.{ℕ, ◌≡◌, ◌≤◌, ◌⊎◌, ◌∙◌, inl, inr, List, [], Option, Some, None, Result, Ok, Err, IfSome, true≢false, is_ok}
use Rattle.std.proofs.Common.{ap, length, refl, subst, sym}
use Rattle.sok_text.specs.Collections.{blocks_of, level_at}
use Rattle.sok_rules.specs.declared.fault.LevelFault.{LevelFault}
use Rattle.sok_rules.specs.Squares.{Rows}
use Rattle.sok_rules.specs.declared.fault.LevelFault.TheVariants as level
use Rattle.sok_board.specs.Area.{BoardView}
use Rattle.sok_board.specs.Refusals.{IsRefused}
use Rattle.sok_board.specs.declared.fault.BoardFault.{BoardFault}
use Rattle.sok_board.specs.declared.fault.BoardFault.TheVariants as board
use Rattle.sok_cert.specs.Claim.{Claim}
use Rattle.sok_cert.specs.CertFault.{CertFault}
use Rattle.sok_cert.specs.CertFault.TheVariants as cert
use Rattle.sok_cert.specs.Reading.{GoesWrong}
use Rattle.sok_engine.specs.declared.fault.ToolFault.{ToolFault}
use Rattle.sok_engine.specs.Faults.{of_board, of_level}
use Rattle.sok_engine.specs.Inputs.{OfReader, OnLevel, Within}
use Rattle.sok_engine.specs.Written.{Answer, Answers, IsFaultOf, Writes}
use Rattle.sok_engine.proofs.Answering.{IsFaultOf-weaker, Within-few, Writes-none, Writes-weaker}
use Rattle.sok_judge.specs.Boards.{OnBoard, IsBoardOf, LacksBoard, accepted, faulty, memory, refused, unaccepted}
use Rattle.sok_judge.specs.Checks.{IsCheck, IsCheckOf, TellsVerdict, TellsVerdictWithin}
use Rattle.sok_judge.specs.Verdicts.{verdict_answer}
use Rattle.sok_cert.specs.Verdicts.{IsRefusedText, IsVerdict}

-- why a text shows nothing, unless memory was refused
pub untold : (b : BoardView) (text : List ℕ) (fault : CertFault) (result : Result Claim CertFault) → result ≡ Err fault
    → (fault ≡ cert.Memory) ⊎ (GoesWrong text fault ⊎ IsRefusedText b text fault)
    → (result ≡ Err cert.Memory) ⊎ IsVerdict b text result
untold b text cert.Memory result is _ = inl is
untold b text fault result is (inl same) = inl (is ∙ ap Err same)
untold b text fault result is (inr wrong) = inr (subst (IsVerdict b text) (sym is) ((λ same. cc), wrong))

-- the answer that tells it
pub tells : (b : BoardView) (text : List ℕ) (verdict : Result Claim CertFault) (answer : Answer) → answer ≡ verdict_answer verdict
    → (verdict ≡ Err cert.Memory → ⊥) → (verdict ≡ Err cert.Memory) ⊎ IsVerdict b text verdict → TellsVerdict b text (Ok answer)
tells b text verdict answer same kept (inl none) = absurd (kept none)
tells b text verdict answer same kept (inr is) = (verdict, is, ap Ok same)

-- a level that is not made has no board
pub no_level : (found : Result Rows LevelFault) (fault : LevelFault) (made : Result Rows LevelFault) → made ≡ Err fault
    → (made ≡ Err level.Memory) ⊎ (made ≡ found) → LacksBoard found (of_level fault)
no_level found fault made is (inl same) = let none : fault ≡ level.Memory = cc in memory (ap of_level none)
no_level found fault made is (inr same) = faulty fault (sym same ∙ is) refl

-- nor has one that is made and not accepted
pub no_board : (rows : Rows) (found : Result Rows LevelFault) → (Ok rows ≡ Err level.Memory) ⊎ (Ok rows ≡ found) → (fault : BoardFault)
    → IsRefused rows fault → LacksBoard found (of_board fault)
no_board rows found (inl other) fault is = absurd (true≢false (ap is_ok other))
no_board rows found (inr same) fault is = unaccepted rows fault (sym same) is refl

-- such a fault is one of the answers, memory aside
level_answers : (P : Rows → Answers) (fault : LevelFault) → IsFaultOf (OnLevel P (Err fault)) (of_level fault)
level_answers P level.Memory = tt
level_answers P fault = refl

-- no board is made, unless memory was refused
board_answers : (P : BoardView → Answers) (rows : Rows) (fault : BoardFault) → IsRefused rows fault → IsFaultOf (OnBoard P rows) (of_board fault)
board_answers P rows board.Memory is = tt
board_answers P rows fault is = refused fault (λ same. cc) is refl

LacksBoard-answers : (P : BoardView → Answers) (found : Result Rows LevelFault) (fault : ToolFault) → LacksBoard found fault
    → IsFaultOf (OnLevel (OnBoard P) found) fault
LacksBoard-answers P found fault (faulty f is same) =
    subst (λ l. IsFaultOf (OnLevel (OnBoard P) l) fault) (sym is) (subst (IsFaultOf (OnLevel (OnBoard P) (Err f))) (sym same) (level_answers (OnBoard P) f))
LacksBoard-answers P found fault (unaccepted rows f is cause same) =
    subst (λ l. IsFaultOf (OnLevel (OnBoard P) l) fault) (sym is) (subst (IsFaultOf (OnBoard P rows)) (sym same) (board_answers P rows f cause))
LacksBoard-answers P found fault (memory same) = subst (IsFaultOf (OnLevel (OnBoard P) found)) (sym same) tt

-- a reader has some text left
pub some_text : (known : Option (List ℕ)) → (text : List ℕ) × IfSome known (λ all. text ≡ all)
some_text None = ([], tt)
some_text (Some text) = (text, refl)

-- a level without a board, whatever the certificate is
pub Writes-no_board : (limit most n : ℕ) (input cert held : Option (List ℕ)) (read : List ℕ) (fault : ToolFault)
    → IfSome input (λ bytes. read ≡ bytes) → length read ≤ limit → LacksBoard (level_at (blocks_of read) n) fault
    → Writes (OfReader input (Within limit (IsCheckOf most n cert))) held held (Err fault)
Writes-no_board limit most n input cert held read fault all few none =
    let (text, told) = some_text cert in
    let answers = LacksBoard-answers (TellsVerdictWithin most text) (level_at (blocks_of read) n) fault none in
    Writes-none limit (IsCheckOf most n cert) input held read fault all few
    (IsFaultOf-weaker (IsCheck most n text read) (IsCheckOf most n cert read) (λ f is. (text, told, is)) fault answers)

-- a level with a board, on which the certificate was judged
pub Writes-judged : (limit most n : ℕ) (input cert old new : Option (List ℕ)) (read : List ℕ) (b : BoardView) (result : Result ℕ ToolFault)
    → IfSome input (λ bytes. read ≡ bytes) → length read ≤ limit → IsBoardOf (level_at (blocks_of read) n) b
    → Writes (OfReader cert (Within most (TellsVerdict b))) old new result
    → Writes (OfReader input (Within limit (IsCheckOf most n cert))) old new result
Writes-judged limit most n input cert old new read b result all few board =
    let told : Answers = OfReader cert (Within most (TellsVerdict b)) in
    let on_board : (answer : Result Answer ToolFault) → told answer → OfReader input (Within limit (IsCheckOf most n cert)) answer =
    λ answer is.
    let (text, known, said) = is in
    let judged : IsCheck most n text read answer =
    subst (λ l. OnLevel (OnBoard (TellsVerdictWithin most text)) l answer) (sym board.rows) (accepted b refl board.accepted said) in
    (read, all, Within-few limit (IsCheckOf most n cert) read answer few (text, known, judged)) in
    Writes-weaker told (OfReader input (Within limit (IsCheckOf most n cert))) on_board old new result
