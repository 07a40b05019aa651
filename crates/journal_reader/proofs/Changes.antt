-- A change that is read is spelled by the words that were read.
use Rattle.std.proofs.Common.{◌≡◌, ◌∷◌, ℕ, zero, suc, List, true, Some, refl, arith}
use Rattle.std.specs.Prelude.{codes}
use Rattle.std.specs.Fmt.{decimal}
use Rattle.std.proofs.lemmas.Bool.{leb-true}
use Rattle.road_graph.specs.declared.values.What.{What}
use Rattle.road_graph.specs.declared.values.What.TheVariants.{Closed, Height, Width, Length, Gross, Allowance, Tridem}
use Rattle.road_graph.specs.Words.{what_of}
use Rattle.road_graph.proofs.Words.{read_is_word}
use Rattle.restriction_log.specs.Changes.{change_of, replaced_by}
use Rattle.restriction_log.specs.declared.change.Replaced.TheVariants as replaced
use Rattle.journal_text.specs.Words.{Words, index}
use Rattle.journal_text.specs.Entries.{change_words}
use Rattle.journal_reader.specs.Fits.{FitsChange, FitsIndex, FitsNumber}
use Rattle.journal_reader.specs.Readers.{may_stand}

-- the change of a limit replaces that limit, by the value that was read
pub replaced_again : (s : ℕ) (w : What) (n : ℕ) → may_stand w n ≡ true → replaced_by (change_of s w n) ≡ replaced.Limit s w n
replaced_again s Closed zero h = refl
replaced_again s Closed (suc zero) h = refl
replaced_again s Closed (suc (suc n)) h = absurd (omega (arith, leb-true (suc (suc n)) 1 h))
replaced_again s Height n h = refl
replaced_again s Width n h = refl
replaced_again s Length n h = refl
replaced_again s Gross n h = refl
replaced_again s Allowance n h = refl
replaced_again s Tridem n h = refl

pub change_spelled : (s : ℕ) (w : What) (n : ℕ) (named : List ℕ) (ws : Words) → what_of named ≡ Some w → may_stand w n ≡ true → FitsIndex s → FitsNumber n
    → ((codes "segment" ∷ index s ∷ named ∷ decimal n ∷ ws) ≡ change_words (change_of s w n) ws) × FitsChange (change_of s w n)
change_spelled s w n named ws word stands fits_s fits_n =
    let same = replaced_again s w n stands in
    (rw (same, read_is_word named w word) refl, rw same (fits_s, fits_n))
