use Rattle.std.proofs.Common.{ℕ, ◌≡◌, ◌∙◌, ◌+◌, ◌<◌, List, [], ◌∷◌, length, arith, subst, ap, get_or}
use Rattle.std.proofs.lemmas.Grind.{same_number_lists}
use Rattle.sqlite_disk.specs.Disk.{Holds, Torn}
use Rattle.sqlite_disk.specs.Memory.{memory_bytes}
use Rattle.sok_databases.proofs.copying.file_of.Goals as goal

-- an empty file that was written from its front holds what was written
written_whole : (bytes old new : List ℕ) → old ≡ [] → (0 < length bytes → Holds new 0 bytes) → Torn 0 (length bytes) old new → new ≡ bytes
written_whole [] old new empty holds torn =
    let none : length old ≡ 0 = ap length empty in
    same_number_lists new [] (omega (arith, torn.no_longer, none)) (λ k below. absurd (omega (arith, torn.no_longer, none)))
written_whole (b ∷ bs) old new empty holds torn =
    let none : length old ≡ 0 = ap length empty in
    let held : Holds new 0 (b ∷ bs) = holds (omega arith) in
    let long : length new ≡ length (b ∷ bs) = omega (arith, held.within, torn.no_longer, none) in
    same_number_lists new (b ∷ bs) long (λ k below.
    let at : 0 + k ≡ k = omega arith in
    subst (λ i. get_or new i 0 ≡ get_or (b ∷ bs) k 0) at (held.each k (omega (arith, below, long))))

pub returns-clause-holds : goal.returns-clause-holds
returns-clause-holds c =
    written_whole c.as_slice.result.now (memory_bytes c.new-file.result) (memory_bytes c.write_at.new.self) c.new-file.ensures.empty c.in_ok-write_at.ensures.written
    c.write_at.ensures.others ∙ c.as_slice.ensures.value
