-- Lists of inner positions that are known, and the text of their lines.
use Rattle.std.proofs.Common.{ℕ, ◌≡◌, ◌≢◌, ◌<◌, ◌∙◌, sym, ap, subst, List, [], ◌∷◌, ◌++◌, All, get_or, length, map, arith}
use Rattle.std.proofs.lemmas.List.{append-nil, get_or-map, length-map}
use Rattle.std.proofs.lemmas.List.Elements.{All-contains, Contains-get_or}
use Rattle.std.specs.List.{Contains}
use Rattle.std.specs.Str.Lines.{lines}
use Rattle.sok_entry.specs.declared.entry.Inner.{Inner}
use Rattle.sok_entry.specs.declared.known.KnownList.{KnownList}
use Rattle.sok_entry.specs.Known.{AreKept, IsAtFront, IsKept, positions_of}
use Rattle.sok_entry.specs.Text.{inner_line, inner_text, FitsInner}
use Rattle.sok_entry.proofs.Openings.{inner_apart}
use Rattle.sok_entry.proofs.Printable.{IsSplit-inner}
use Rattle.sok_entry.proofs.Splits.{IsSplit-start}

inner_text-lines : (inner : List Inner) (more : List ℕ) → All FitsInner inner → lines (inner_text inner ++ more) ≡ map inner_line inner ++ lines more
inner_text-lines inner more fit = (IsSplit-inner [] [] inner fit IsSplit-start).has_lines more

-- as many positions, with whose text the other text begins, are the same
pub same_inner : (is js : List Inner) (rest : List ℕ) → All FitsInner is → All FitsInner js → length js ≡ length is → inner_text is ≡ inner_text js ++ rest → is ≡ js
same_inner is js rest fit_i fit_j many same =
    let spelled : map inner_line is ++ lines [] ≡ map inner_line js ++ lines rest =
    sym (inner_text-lines is [] fit_i) ∙ ap lines (append-nil (inner_text is) ∙ same) ∙ inner_text-lines js rest fit_j in
    (inner_apart is js (lines []) (lines rest) fit_i fit_j (sym many) spelled).0

-- the positions of a kept list are known
Contains-positions : (lists : List KnownList) (i : ℕ) (d : KnownList) → i < length lists → Contains (positions_of lists) (get_or lists i d).inner
Contains-positions lists i d within =
    let positions : KnownList → List Inner = λ known. known.inner in
    (i, omega (arith, length-map lists positions), get_or-map positions lists i d (get_or lists i d).inner within)

-- what is known are the positions of a kept list
positions-Contains : (lists : List KnownList) (inner : List Inner) → Contains (positions_of lists) inner → (known : KnownList) × Contains lists known
    × (known.inner ≡ inner)
positions-Contains [] inner (i, within, is) = absurd (omega arith)
positions-Contains (first ∷ lists) inner (i, within, is) =
    let all = first ∷ lists in
    let positions : KnownList → List Inner = λ known. known.inner in
    let inside : i < length all = omega (arith, length-map all positions) in
    (get_or all i first, Contains-get_or all i first inside, sym (get_or-map positions all i first inner inside) ∙ is)

-- a list has another count, or the text does not begin with its lines
abbrev pub IsMissed : List ℕ → ℕ → KnownList → Type 0
IsMissed text count known = length known.inner ≡ count → (rest : List ℕ) → text ≢ known.lines.items ++ rest

module _ (lists : List KnownList) (left : ℕ) (kept : AreKept lists left) where
  pub IsAtFront-kept : (text : List ℕ) (count i : ℕ) (known : KnownList) (rest : List ℕ) → i < length lists → known ≡ get_or lists i known
      → length known.inner ≡ count → text ≡ known.lines.items ++ rest → IsAtFront (positions_of lists) text count known.inner rest
  IsAtFront-kept text count i known rest within is many begins =
      let here : IsKept known = subst IsKept (sym is) (kept.each i known within) in
      record {
        known = subst (λ (k : KnownList). Contains (positions_of lists) k.inner) (sym is) (Contains-positions lists i known within);
        many = many;
        fits = here.fits;
        begins = begins ∙ ap (λ front. front ++ rest) here.lines;
      }

  -- where all are missed, no list that is known is at the front
  pub missed-all : (text : List ℕ) (count : ℕ) → All (IsMissed text count) lists → (inner : List Inner) → Contains (positions_of lists) inner
      → length inner ≡ count → (rest : List ℕ) → text ≢ inner_text inner ++ rest
  missed-all text count missed inner is_known many rest begins =
      let (known, among, same) = positions-Contains lists inner is_known in
      let here : IsKept known = All-contains IsKept lists known kept.each among in
      All-contains (IsMissed text count) lists known missed among (ap length same ∙ many) rest
      (begins ∙ ap (λ is. inner_text is ++ rest) (sym same) ∙ ap (λ front. front ++ rest) (sym here.lines))
