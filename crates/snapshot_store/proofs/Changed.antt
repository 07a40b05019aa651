-- What the stamps of a store say, and what stays where nothing changed.
use Rattle.std.proofs.Common.{◌≡◌, ◌∙◌, ap, refl, take, ◌∷◌, ◌++◌, [], ◌+◌, ◌<◌, ◌≤◌, ℕ, List, length, get_or, set, drop, true, false}
use Rattle.std.proofs.lemmas.List.{take_at}
use Rattle.restriction_log.specs.Roads.{Roads}
use Rattle.restriction_log.specs.declared.change.Change.{Change}
use Rattle.restriction_log.specs.Changes.{is_touched, touched}
use Rattle.restriction_log.specs.States.{AgreeOn, state_of}
use Rattle.restriction_log.specs.Stamps.{HasStamps}
use Rattle.restriction_log.proofs.Elsewhere.{agree-since}
use Rattle.restriction_log.proofs.Stamping.{stamp_above, stamp_below, stamps_more}
use Rattle.snapshot_store.specs.Stores.{IsLater, Stored, state_now, store_version_of}

pub changed_above : (s : Stored) (stamps : List ℕ) (i after : ℕ) → HasStamps s.roads s.postings stamps → i < length s.roads.segments
    → after < get_or stamps i 0 → is_touched s.roads i (drop after s.postings) ≡ true
changed_above s stamps i after is within above = stamp_above s.roads s.postings stamps i after is within above

pub kept_below : (s : Stored) (stamps : List ℕ) (i after : ℕ) → HasStamps s.roads s.postings stamps → i < length s.roads.segments
    → get_or stamps i 0 ≤ after → is_touched s.roads i (drop after s.postings) ≡ false
kept_below s stamps i after is within below = stamp_below s.roads s.postings stamps i after is within below

pub stamps_posted : (s : Stored) (stamps : List ℕ) (c : Change) → touched s.roads c < length s.roads.segments → HasStamps s.roads s.postings stamps
    → HasStamps s.roads (s.postings ++ c ∷ []) (set stamps (touched s.roads c) (length s.postings + 1))
stamps_posted s stamps c within is = stamps_more s.roads s.postings stamps c within is

-- where no posting since names a segment, a store that has gone on agrees with what it was
pub agree_kept : (before now : Stored) (i : ℕ) → IsLater before now → is_touched now.roads i (drop (store_version_of before) now.postings) ≡ false
    → AgreeOn now.roads i (state_now before) (state_now now)
agree_kept before now i is none =
    let n = store_version_of before in
    let first : take n now.postings ≡ before.postings = ap (take n) is.postings ∙ take_at before.postings is.more n refl in
    let old : state_of now.roads (take n now.postings) ≡ state_now before =
    ap (state_of now.roads) first ∙ ap (λ (r : Roads). state_of r before.postings) is.roads in
    rw (← old) (agree-since now.roads i n now.postings none)
