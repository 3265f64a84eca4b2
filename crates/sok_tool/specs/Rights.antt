-- Which files the program may make, empty or remove for a command line, and which databases it may change.
use Rattle.std.specs.Prelude.{ℕ, ℤ, ◌≡◌, List, ◌∷◌, Some, string_bytes}
use Rattle.sok_files.specs.Files.{cert_path}
use Rattle.sok_words.specs.declared.job.Job.{Job}
use Rattle.sok_words.specs.declared.job.Job.TheVariants as job
use Rattle.sok_words.specs.Forms.{Form, IsPlain, Means, words_of}

-- These words may mean a job: if they are the program's name and the words of a form, then it is the job of that form.
abbrev pub MayAsk : List (List ℕ) → Job → Type 0
MayAsk words job = (program : List ℕ) (form : Form) → IsPlain form → words ≡ program ∷ words_of form → Means form job

-- a job makes a file at a path: its certificate, or one in its folder
abbrev pub MakesAt : Job → List ℕ → Type 0
MakesAt (job.Solve file n below limit bound (Some cert)) path = path ≡ string_bytes cert
MakesAt (job.Settle db limit first last (Some folder)) path = (id : ℤ) × (path ≡ cert_path (string_bytes folder) id)
MakesAt _ path = ⊥

-- a job changes the database at a path
abbrev pub ChangesAt : Job → List ℕ → Type 0
ChangesAt (job.Add db file) path = path ≡ string_bytes db
ChangesAt (job.Offer db id text) path = path ≡ string_bytes db
ChangesAt (job.Offers db file) path = path ≡ string_bytes db
ChangesAt (job.Prove db id cert) path = path ≡ string_bytes db
ChangesAt (job.Settle db limit first last folder) path = path ≡ string_bytes db
ChangesAt _ path = ⊥
