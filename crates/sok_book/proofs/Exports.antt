-- Exports, level by level.
use Rattle.std.proofs.Common.{ℕ, Bool, ◌≡◌, ◌<◌, ◌≤◌, ◌+◌, List, [], ◌∷◌, ◌++◌, map, length, take, get_or, sym, ap, ◌∙◌, refl}
use Rattle.std.proofs.lemmas.List.{append_assoc, append-nil, take_all, take_more}
use Rattle.sok_book.specs.Books.{Page}
use Rattle.sok_book.specs.Exported.{export_text, level_export}

export-append : (s : Bool) (a b : List Page) → export_text s (a ++ b) ≡ export_text s a ++ export_text s b
export-append s [] b = refl
export-append s (page ∷ a) b =
    ap (λ rest. level_export s page ++ rest) (export-append s a b) ∙ sym (append_assoc (level_export s page) (export_text s a) (export_text s b))

map-append : {A B : Type 0} (f : A → B) (xs ys : List A) → map f (xs ++ ys) ≡ map f xs ++ map f ys
map-append f [] ys = refl
map-append f (x ∷ xs) ys = ap (λ rest. f x ∷ rest) (map-append f xs ys)

-- one more level
pub export-more : {A : Type 0} (s : Bool) (of : A → Page) (xs : List A) (i : ℕ) (x other : A) → i < length xs → x ≡ get_or xs i other
    → export_text s (map of (take (i + 1) xs)) ≡ export_text s (map of (take i xs)) ++ level_export s (of x)
export-more s of xs i x other within there =
    ap (λ ys. export_text s (map of ys)) (take_more xs i other within)
    ∙ ap (export_text s) (map-append of (take i xs) (get_or xs i other ∷ []))
    ∙ export-append s (map of (take i xs)) (of (get_or xs i other) ∷ [])
    ∙ ap (λ back. export_text s (map of (take i xs)) ++ back)
    (append-nil (level_export s (of (get_or xs i other))) ∙ ap (λ y. level_export s (of y)) (sym there))

pub export-all : {A : Type 0} (s : Bool) (of : A → Page) (xs : List A) (i : ℕ) → length xs ≤ i
    → export_text s (map of (take i xs)) ≡ export_text s (map of xs)
export-all s of xs i past = ap (λ ys. export_text s (map of ys)) (take_all i xs past)
