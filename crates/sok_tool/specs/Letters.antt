-- The letters that a word of a command line stands for.
use Rattle.std.specs.Prelude.{ℕ, ◌≡◌, ◌≢◌, ◌<◌, ◌⊎◌, List, Option, Result, Err, IfSome, codes, length, ⊤}
use Rattle.sok_engine.specs.declared.fault.ToolFault.{ToolFault}
use Rattle.sok_engine.specs.declared.fault.ToolFault.TheVariants as tool
use Rattle.sok_engine.specs.Certified.{Bytes, Stays}
use Rattle.sok_engine.specs.Limits.{input_limit}

-- `-` stands for the bytes that an input has left, as far as they are known, and any other word for itself
abbrev pub IsLetters : List ℕ → Option (List ℕ) → List ℕ → Type 0
IsLetters word known letters = ((word ≢ codes "-") × (letters ≡ word)) ⊎ ((word ≡ codes "-") × IfSome known (λ all. letters ≡ all))

-- why there are no letters: memory was refused, the input failed, or it has too many bytes
abbrev pub IsUnread : List ℕ → Option (List ℕ) → ToolFault → Type 0
IsUnread word known tool.Memory = ⊤
IsUnread word known tool.ReadFailed = word ≡ codes "-"
IsUnread word known tool.TooMuch = (word ≡ codes "-") × IfSome known (λ all. input_limit < length all)
IsUnread word known fault = ⊥

-- A command does this with the letters of a word. If there are none, nothing is written.
pub data OnLetters (word : List ℕ) (known : Option (List ℕ)) (Does : List ℕ → Type 0) (out : Bytes) (result : Result ℕ ToolFault) : Type 0 where
  unread : (fault : ToolFault) → IsUnread word known fault → result ≡ Err fault → Stays out → OnLetters word known Does out result
  done : (letters : List ℕ) → IsLetters word known letters → Does letters → OnLetters word known Does out result
