-- The texts of all levels of a book.
use Rattle.std.specs.Prelude.{ℕ, List}
use Rattle.sok_book.specs.Books.{Page}
use Rattle.sok_book.specs.declared.text.BookText.{BookText}
use Rattle.sok_book.specs.declared.text.BookText.TheVariants.{Overview, Export}
use Rattle.sok_book.specs.Exported.{export_text}
use Rattle.sok_book.specs.Overview.{overview_from}

-- a line for each level, or a collection of the levels with or without their solutions
abbrev pub book_text : BookText → List Page → List ℕ
book_text Overview pages = overview_from 1 pages
book_text (Export solutions) pages = export_text solutions pages
