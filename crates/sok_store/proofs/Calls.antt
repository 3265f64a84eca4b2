-- Calls that leave a book as it was, and calls one after another.
use Rattle.std.proofs.Common.{refl, inl, inr, arith, IsTrue}
use Rattle.sqlite.specs.Tree.{Trees}
use Rattle.sqlite.specs.State.{State, HasCleanDisk, Survives}
use Rattle.sqlite.proofs.StateLemmas.{survives_weaker, survives_then}
use Rattle.sok_book.specs.declared.fault.BookFault.{BookFault}
use Rattle.sok_book.specs.Books.{Book}
use Rattle.sok_sql.specs.Connections.{Rests}
use Rattle.sok_store.specs.Rows.{HasBook, HoldsBook, ShowsBook, StoresBook, leaves_of}
use Rattle.sok_store.specs.Calls.{ChangesBook, FindsBook, KeepsBook, MakesNone, ShowsOn, Stops, StoresChange}

-- what is shown is held
pub held_shown : (s : State) (book : Book) → ShowsBook s book → HoldsBook s book
held_shown s book shows = (shows.0, λ _. shows.1)

-- what an open connection shows
pub shown : (s : State) (book : Book) → StoresBook s book → ShowsBook s book
shown s book stores = (stores.0, stores.1.1)

pub held : (s : State) (book : Book) → StoresBook s book → HoldsBook s book
held s book stores = held_shown s book (shown s book stores)

pub stored : (s : State) (book : Book) → HoldsBook s book → IsTrue s.is_open → StoresBook s book
stored s book holds up = (holds.0, (up, holds.1 up))

pub finds_keeps : (old new : State) (P : Book → Type 0) → FindsBook old new P → KeepsBook old new P
finds_keeps old new P finds clean book holds = let (is, stores) = finds clean book holds in (is, held new book stores)

-- what is shown after a call is held after it, and the connection is open
pub changes_turns : (old new : State) (Makes : Book → Book → Type 0) → StoresChange old new Makes → ChangesBook old new Makes
changes_turns old new Makes changes clean book holds = let (after, makes, stores) = changes clean book holds in (after, makes, held new after stores)

-- what is made of the book is more than is said
pub turns_more : {old new : State} {Makes More : Book → Book → Type 0} → ((book after : Book) → Makes book after → More book after)
    → ChangesBook old new Makes → ChangesBook old new More
turns_more so turns clean book holds = let (after, makes, held_after) = turns clean book holds in (after, so book after makes, held_after)

pub changes_more : {old new : State} {Makes More : Book → Book → Type 0} → ((book after : Book) → Makes book after → More book after)
    → StoresChange old new Makes → ChangesBook old new More
changes_more so changes = turns_more so (changes_turns _ _ _ changes)

-- the book stays
pub keeps_turns : {old new : State} {P : Book → Type 0} (Makes : Book → Book → Type 0) → ((book : Book) → P book → Makes book book)
    → KeepsBook old new P → ChangesBook old new Makes
keeps_turns Makes so keeps clean book holds = let (is, held_after) = keeps clean book holds in (book, so book is, held_after)

-- nothing is done
pub same_turns : {s : State} (Makes : Book → Book → Type 0) → ((book : Book) → Makes book book) → ChangesBook s s Makes
same_turns Makes so clean book holds = (book, so book, holds)

-- one call, and then another
pub turns_then : {old mid new : State} {First Second Both : Book → Book → Type 0} → (HasCleanDisk new → HasCleanDisk mid)
    → ((book middle after : Book) → First book middle → Second middle after → Both book after) → ChangesBook old mid First → ChangesBook mid new Second → ChangesBook old new Both
turns_then early so one two clean book holds =
    let (middle, first, held_mid) = one (early clean) book holds in
    let (after, second, held_after) = two clean middle held_mid in
    (after, so book middle after first second, held_after)

-- what is found of the book first is known of it then
pub finds_then : {old mid new : State} {P : Book → Type 0} {Second Both : Book → Book → Type 0} → (HasCleanDisk new → HasCleanDisk mid)
    → ((book after : Book) → P book → Second book after → Both book after) → FindsBook old mid P → ChangesBook mid new Second → ChangesBook old new Both
finds_then {mid = mid} early so finds turns clean book holds =
    let (is, stores) = finds (early clean) book holds in
    let (after, second, held_after) = turns clean book (held mid book stores) in
    (after, so book after is second, held_after)

-- what is held is shown then
pub stores_on : (old new : State) (fault : BookFault) → (HasCleanDisk new → (book : Book) → HoldsBook old book → StoresBook new book) → ShowsOn old new fault
stores_on old new fault stores =
    inr (λ clean book shows. let there = stores clean book (held_shown old book shows) in (book, refl, shown new book there, λ _. there.1.0))

-- nothing is done
pub same_on : (s : State) (fault : BookFault) → ShowsOn s s fault
same_on s fault = inr (λ clean book shows. (book, refl, shows, λ up. up))

pub stops_same : (s : State) (Makes : Book → Book → Type 0) → Stops s s Makes
stops_same s Makes = record {
  clean = omega arith;
  shield = λ h. h;
  counts = omega arith;
  limit = refl;
  closes = λ _ up. inl up;
  crash = λ _ _ left. inl left;
}

-- rows are read
module _ (old new : State) (rests : Rests old new) where
  pub rests_holds : HasCleanDisk new → (book : Book) → HoldsBook old book → HoldsBook new book
  rests_holds clean book holds = (holds.0, rests.kept clean (leaves_of book) holds.1)

  pub rests_stops : (Makes : Book → Book → Type 0) → Stops old new Makes
  rests_stops Makes = survives_weaker old new _ _ (λ _ db none book shows. absurd (none (inr shows.1.schema))) rests.stop

-- what may be made is more than is said
pub stops_less : (old new : State) (Makes Less : Book → Book → Type 0) → ((book after : Book) → Makes book after → Less book after)
    → Stops old new Makes → Stops old new Less
stops_less old new Makes Less so one =
    survives_weaker old new _ _ (λ _ db made book shows. let (after, makes, has) = made book shows in (after, so book after makes, has)) one

-- a call that makes no other book
pub stops_none : (old new : State) (Makes : Book → Book → Type 0) → Stops old new MakesNone → Stops old new Makes
stops_none old new Makes one = stops_less old new MakesNone Makes (λ book after none. absurd none) one

-- and then one that may
pub stops_later : (a b c : State) (Makes : Book → Book → Type 0) → Stops a b MakesNone → (Commits : Trees → Type 0)
    → (HasCleanDisk c → (db : Trees) → Commits db → (book : Book) → ShowsBook a book → (after : Book) × Makes book after × HasBook db after)
    → Survives b c Commits → Stops a c Makes
stops_later a b c Makes one Commits two_makes two =
    survives_then a b c _ _ _ (λ _ db made book shows. let (after, none, has) = made book shows in absurd none) two_makes one two
