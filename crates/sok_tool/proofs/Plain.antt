-- The letters of a word, and of one that is no hyphen alone.
use Rattle.std.proofs.Common.{ℕ, ℤ, ◌≡◌, ◌≢◌, ◌∙◌, ◌⊎◌, inl, inr, IsErrAnd, List, [], ◌∷◌, Global, Option, Some, None, Result, Err, String, ap, codes, string_bytes, subst, sym, take}
use Rattle.std.proofs.KnownBytes.{Keeps-refl}
use Rattle.std.proofs.lemmas.Result.{err_from_is_err_and}
use Rattle.sok_engine.specs.declared.fault.ToolFault.{ToolFault}
use Rattle.sok_engine.specs.declared.fault.ToolFault.TheVariants as tool
use Rattle.sok_engine.specs.Certified.{Bytes, Stays}
use Rattle.sok_words.specs.declared.job.Job.TheVariants as job
use Rattle.sok_words.specs.Forms.{Form, IsPlain, IsValue, Means, draw, offer, replay}
use Rattle.sok_tool.specs.Letters.{IsLetters, IsUnread, OnLetters, done, unread}

not_hyphen : (text word : List ℕ) → IsValue text → word ≡ text → word ≢ codes "-"
not_hyphen [] word is same hyphen = is
not_hyphen (b ∷ bs) word is same hyphen = is (ap (take 1) (sym same ∙ hyphen))

-- so it is with the text of each plain form
pub replay_word : (form : Form) (file : String Global) (n : ℕ) (text : String Global) (word : List ℕ) → IsPlain form → Means form (job.Replay file n text)
    → word ≡ string_bytes text → word ≢ codes "-"
replay_word (replay of number spelled) file n text word (f, k, t) (file_is, number_is, text_is) same = not_hyphen spelled word t (same ∙ text_is)
replay_word _ file n text word plain means same = absurd means

pub draw_word : (form : Form) (file : String Global) (n : ℕ) (text : String Global) (word : List ℕ) → IsPlain form → Means form (job.Draw file n text)
    → word ≡ string_bytes text → word ≢ codes "-"
draw_word (draw of number (Some spelled)) file n text word (f, k, t) (file_is, number_is, text_is) same = not_hyphen spelled word t (same ∙ text_is)
draw_word (draw of number None) file n text word plain (file_is, number_is, text_is) same = λ hyphen. let none : [] ≡ codes "-" = sym text_is ∙ sym same ∙ hyphen in absurd cc
draw_word _ file n text word plain means same = absurd means

pub offer_word : (form : Form) (db : String Global) (id : ℤ) (text : String Global) (word : List ℕ) → IsPlain form → Means form (job.Offer db id text)
    → word ≡ string_bytes text → word ≢ codes "-"
offer_word (offer of number spelled) db id text word (d, i, t) (db_is, id_is, text_is) same = not_hyphen spelled word t (same ∙ text_is)
offer_word _ db id text word plain means same = absurd means

-- a command does what it does on the word itself, unless memory was refused for it
pub on_word : (word : List ℕ) (known : Option (List ℕ)) (Does : List ℕ → Type 0) (out : Bytes) (result : Result ℕ ToolFault) → word ≢ codes "-"
    → OnLetters word known Does out result → ((result ≡ Err tool.Memory) × Stays out) ⊎ Does word
on_word word known Does out result other (unread tool.Memory why is stays) = inl (is, stays)
on_word word known Does out result other (unread tool.ReadFailed why is stays) = absurd (other why)
on_word word known Does out result other (unread tool.TooMuch why is stays) = absurd (other why.0)
on_word word known Does out result other (unread fault why is stays) = absurd why
on_word word known Does out result other (done letters (inl (plain, same)) does) = inr (subst Does same does)
on_word word known Does out result other (done letters (inr (hyphen, told)) does) = absurd (other hyphen)

-- a command was done on letters that were read
pub on_read : (word : List ℕ) (known : Option (List ℕ)) (Does : List ℕ → Type 0) (out : Bytes) (result : Result ℕ ToolFault) (letters passed : List ℕ)
    → passed ≡ letters → IsLetters word known letters → Does passed → OnLetters word known Does out result
on_read word known Does out result letters passed same is does = done letters is (subst Does same does)

-- there are no letters, and nothing is written
pub none_read : (word : List ℕ) (known : Option (List ℕ)) (Does : List ℕ → Type 0) (held : Option (List ℕ)) (fault : ToolFault) (result : Result ℕ ToolFault)
    → IsErrAnd result (λ told. told ≡ fault) → IsUnread word known fault → OnLetters word known Does (record { old = held; new = held }) result
none_read word known Does held fault result is why =
    let (told, errs, same) = err_from_is_err_and result is in unread fault why (errs ∙ ap Err same) (Keeps-refl held)
