-- What the program does for a command line.
use Rattle.std.specs.Prelude.{ℕ, ℤ, ◌≡◌, Bool, List, [], Option, Some, None, Result, Err, option_map, unwrap_or}
use Rattle.std.specs.Str.Parse.{digits_value}
use Rattle.sok_search.specs.Faults.{IsBadLimit}
use Rattle.sok_book.specs.Books.{Book}
use Rattle.sok_engine.specs.declared.fault.ToolFault.{ToolFault}
use Rattle.sok_engine.specs.declared.fault.ToolFault.TheVariants as tool
use Rattle.sok_engine.specs.Certified.{Bytes}
use Rattle.sok_engine.specs.Inputs.{Within}
use Rattle.sok_engine.specs.Limits.{cert_limit, input_limit}
use Rattle.sok_engine.specs.Written.{Answers, Writes}
use Rattle.sok_files.specs.Endings.{Ends, Runs}
use Rattle.sok_files.specs.Files.{Files, OfFile, OfFiles}
use Rattle.sok_files.specs.Solving.{SolvesLevel}
use Rattle.sok_judge.specs.Checks.{IsCheck}
use Rattle.sok_keep.specs.Adds.{AddsBytes, WritesAdding}
use Rattle.sok_keep.specs.Offers.{OffersText, WritesOffer}
use Rattle.sok_keep.specs.Proves.{ProvesBytes, WritesProof}
use Rattle.sok_keep.specs.Shows.{IsBookText, IsShow}
use Rattle.sok_settle.specs.Offers.{OffersBytes, WritesOffers}
use Rattle.sok_settle.specs.declared.settle.Span.{Span}
use Rattle.sok_settle.specs.Settles.{SettlesSome, WritesSettling}
use Rattle.sok_solve.specs.declared.task.Task.{Task}
use Rattle.sok_databases.specs.declared.databases.Access.TheVariants as accesses
use Rattle.sok_play.specs.Drawings.{IsDrawing}
use Rattle.sok_play.specs.Listing.{IsListing}
use Rattle.sok_play.specs.Plays.{IsReplay}
use Rattle.sok_book.specs.declared.text.BookText.TheVariants.{Overview, Export}
use Rattle.sok_store.specs.Calls.{MakesNone}
use Rattle.sok_words.specs.declared.job.Job.{Job}
use Rattle.sok_words.specs.Forms.{Form, IsPlain, Means, add, check, draw, export, from_of, id_value, limit_of, list, offer, offers, prove, replay, settle, show, solve, to_of}
use Rattle.sok_tool.specs.Certs.{IsFolderless, keeping_of}
use Rattle.sok_tool.specs.Databases.{Databases, IsFileless, IsNeverLacking, OfOpened, WorksOn, at}

-- a text is played on a level of a file: it is replayed, or the level that it leads to is drawn
abbrev pub RunsPlay : (ℕ → List ℕ → List ℕ → Answers) → (Option (List ℕ) → Type 0) → ℕ → Bytes → Result ℕ ToolFault → List ℕ → Type 0
RunsPlay P reads n out result text = Writes (OfFile reads (Within input_limit (P n text))) out.old out.new result

-- a level is solved as these words ask for
abbrev pub task_of : List ℕ → Option (List ℕ) → Option (List ℕ) → Bool → Task
task_of number below limit bound =
    record { n = digits_value 10 number; below = option_map (λ d. digits_value 10 d) below; limit = limit_of limit; bound = bound }

-- a certificate is judged for a level
abbrev pub RunsCheck : Files Bytes → List ℕ → ℕ → List ℕ → Bytes → Result ℕ ToolFault → Type 0
RunsCheck files file n cert out result =
    Writes (OfFiles (files.reads file) (files.reads cert) (λ text. Within input_limit (IsCheck cert_limit n text))) out.old out.new result

-- the levels of a file are added
abbrev pub RunsAdd : Files Bytes → Databases → List ℕ → List ℕ → Bytes → Result ℕ ToolFault → Type 0
RunsAdd files databases db file out result =
    WorksOn (at databases accesses.Make db) (IsFileless (files.lacks file)) (λ book after. OfOpened (files.reads file) (λ known. AddsBytes known book after))
    (λ ended book after. OfOpened (files.reads file) (λ known. WritesAdding book known after out.old out.new ended)) out result

-- a text is offered to the level with an id
abbrev pub RunsOffer : Databases → List ℕ → ℤ → Bytes → Result ℕ ToolFault → List ℕ → Type 0
RunsOffer databases db id out result text =
    WorksOn (at databases accesses.Change db) IsNeverLacking (OffersText id text) (λ ended book after. WritesOffer book id text after out.old out.new ended) out result

-- the lines of a file are offered
abbrev pub RunsOffers : Files Bytes → Databases → List ℕ → List ℕ → Bytes → Result ℕ ToolFault → Type 0
RunsOffers files databases db file out result =
    WorksOn (at databases accesses.Change db) (IsFileless (files.lacks file)) (λ book after. OfOpened (files.reads file) (λ known. OffersBytes known book after))
    (λ ended book after. OfOpened (files.reads file) (λ known. WritesOffers book known after out.old out.new ended)) out result

-- the certificate in a file is judged for the level with an id
abbrev pub RunsProve : Files Bytes → Databases → List ℕ → ℤ → List ℕ → Bytes → Result ℕ ToolFault → Type 0
RunsProve files databases db id cert out result =
    WorksOn (at databases accesses.Change db) (IsFileless (files.lacks cert)) (λ book after. OfOpened (files.reads cert) (λ known. ProvesBytes id known book after))
    (λ ended book after. OfOpened (files.reads cert) (λ known. WritesProof book id known after out.old out.new ended)) out result

-- The levels of a span that have no verdict are settled within a limit; a bad limit is `BadLimit`. If a folder is given, their certificates are kept there.
abbrev pub RunsSettle : Files Bytes → Databases → List ℕ → ℕ → Span → Option (List ℕ) → Bytes → Result ℕ ToolFault → Type 0
RunsSettle files databases db limit span folder out result =
    WorksOn (at databases accesses.Settle db) (IsFolderless files folder) (SettlesSome (keeping_of files db folder) limit span)
    (λ ended book after. (IsBadLimit limit → ended ≡ Err tool.BadLimit)
    × WritesSettling (keeping_of files db folder) limit span book after out.old out.new ended) out result

-- the book is only read, and one of these answers is written
abbrev pub RunsShowing : Databases → List ℕ → (Book → Answers) → Bytes → Result ℕ ToolFault → Type 0
RunsShowing databases db P out result =
    WorksOn (at databases accesses.Read db) IsNeverLacking MakesNone (λ ended book after. (after ≡ book) × Writes (P book) out.old out.new ended) out result

-- the program ends with the status of what is done, or with that of the fault
abbrev pub EndsWith : (Result ℕ ToolFault → Type 0) → Bytes → ℕ → Type 0
EndsWith Does err exit = (result : Result ℕ ToolFault) × Does result × Ends result err.old err.new exit

-- what is done with the output, the files and the book that a form of words names
abbrev pub Serves : Files Bytes → Databases → Form → Bytes → Bytes → ℕ → Type 0
Serves files databases (list file) out err exit = Runs (OfFile (files.reads file) (Within input_limit IsListing)) out.old out.new err.old err.new exit
Serves files databases (replay file number text) out err exit =
    EndsWith (λ result. RunsPlay IsReplay (files.reads file) (digits_value 10 number) out result text) err exit
Serves files databases (draw file number text) out err exit =
    EndsWith (λ result. RunsPlay IsDrawing (files.reads file) (digits_value 10 number) out result (unwrap_or text [])) err exit
Serves files databases (check file number cert) out err exit = EndsWith (RunsCheck files file (digits_value 10 number) cert out) err exit
Serves files databases (solve file number below limit bound cert) out err exit =
    EndsWith (SolvesLevel file (files.reads file) files.makes (task_of number below limit bound) cert out) err exit
Serves files databases (add db file) out err exit = EndsWith (RunsAdd files databases db file out) err exit
Serves files databases (offer db id text) out err exit = EndsWith (λ result. RunsOffer databases db (id_value id) out result text) err exit
Serves files databases (offers db file) out err exit = EndsWith (RunsOffers files databases db file out) err exit
Serves files databases (prove db id cert) out err exit = EndsWith (RunsProve files databases db (id_value id) cert out) err exit
Serves files databases (settle db limit from to folder) out err exit =
    EndsWith (RunsSettle files databases db (limit_of limit) (record { first = from_of from; last = to_of to }) folder out) err exit
Serves files databases (show db (Some id)) out err exit = EndsWith (RunsShowing databases db (λ book. IsShow book (id_value id)) out) err exit
Serves files databases (show db None) out err exit = EndsWith (RunsShowing databases db (IsBookText Overview) out) err exit
Serves files databases (export db solutions) out err exit = EndsWith (RunsShowing databases db (IsBookText (Export solutions)) out) err exit

-- the same for a job that such a form means
abbrev pub ServesJob : Files Bytes → Databases → Job → Bytes → Bytes → ℕ → Type 0
ServesJob files databases job out err exit = (form : Form) → IsPlain form → Means form job → Serves files databases form out err exit
