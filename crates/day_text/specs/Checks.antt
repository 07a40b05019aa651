-- What a check file says, judged over the whole list of its records.
use Rattle.std.specs.Prelude.{ℕ, ◌+◌, Bool, ◌&&◌, ◌||◌, nat_le, if◌then◌else◌, List, [], ◌∷◌, ◌++◌, length, codes, Result, Ok, Err}
use Rattle.day_text.specs.Causes.{◌>>=◌, demand, limit}
use Rattle.day_text.specs.Forms.{Number, said_in}
use Rattle.day_text.specs.Records.{Row, has_kind, judged, rows_of}
use Rattle.day_text.specs.Trucks.{load_of, truck_fields_of}
use Rattle.trip_analysis.specs.declared.base.Truck.{Truck}
use Rattle.day_text.specs.declared.check_file.Probe.{Probe}
use Rattle.day_text.specs.declared.check_file.CheckFile.{CheckFile}
use Rattle.day_text.specs.declared.check_file.CheckProgress.{CheckProgress}
use Rattle.day_text.specs.declared.check_file.CheckProgress.TheVariants as so_far
use Rattle.day_text.specs.declared.refusal.Cause.{Cause}
use Rattle.day_text.specs.declared.refusal.Cause.TheVariants as why
use Rattle.day_text.specs.declared.refusal.RecordCause.TheVariants as bad
use Rattle.day_text.specs.declared.refusal.Kind.TheVariants as kind

-- whether a record is of a kind that a check file has
abbrev pub is_check_kind : Row → Bool
is_check_kind fields = has_kind (codes "truck") fields || has_kind (codes "probe") fields || has_kind (codes "end") fields

-- truck,NAME,CARRIER,HEIGHT,WIDTH,LENGTH,AXLES: each cause in its order
unfoldable pub checked_truck_of : Row → Result Truck Cause
checked_truck_of fields = do
  t ← truck_fields_of fields
  load ← load_of t.height t.width t.length t.axles
  Ok (record { name = t.name; carrier = t.carrier; load = load })

-- probe,INCHES,RATING: the span has 1 to 6,000 in, the rating is at most 100,000 per mille, and there are at most 64
unfoldable pub probe_of : List Probe → Row → Result Probe Cause
probe_of probes fields = do
  (inches, (rating, rest)) ← said_in (Number ∷ Number ∷ []) fields
  a ← demand (nat_le 1 inches && nat_le inches 6000) (bad.Range 2)
  b ← demand (nat_le rating 100000) (bad.Range 3)
  c ← limit (nat_le (length probes + 1) 64) kind.Probes
  Ok (record { inches = inches; rating = rating })

-- the probes after a record of one
abbrev pub probes_of : List Probe → Row → Result (List Probe) Cause
probes_of probes fields = probe_of probes fields >>= (λ probe. Ok (probes ++ probe ∷ []))

-- the first record: it is a truck
unfoldable pub judge_truck : Row → Result CheckProgress Cause
judge_truck fields =
    if has_kind (codes "truck") fields then checked_truck_of fields >>= (λ truck. Ok (so_far.Open (record { truck = truck; probes = [] })))
    else Err (why.Bad bad.Order)

-- a probe, behind which more records follow
unfoldable pub judge_probe : CheckFile → Row → Result CheckProgress Cause
judge_probe file fields = probes_of file.probes fields >>= (λ probes. Ok (so_far.Open (record file { probes = probes })))

-- the end
unfoldable pub judge_end : CheckFile → Row → Result CheckProgress Cause
judge_end file fields = said_in [] fields >>= (λ nothing. Ok (so_far.Ended file))

-- a record behind the truck: a probe or the end
unfoldable pub judge_later : CheckFile → Row → Result CheckProgress Cause
judge_later file fields =
    if has_kind (codes "truck") fields then Err (why.Bad bad.Order)
    else (if has_kind (codes "probe") fields then judge_probe file fields else judge_end file fields)

-- where a record of a known kind leads; nothing follows the end
abbrev pub judge_check_kind : CheckProgress → Row → Result CheckProgress Cause
judge_check_kind so_far.Start fields = judge_truck fields
judge_check_kind (so_far.Open file) fields = judge_later file fields
judge_check_kind (so_far.Ended file) fields = Err (why.Bad bad.Order)

-- where a record of eight fields leads
abbrev pub judge_check : CheckProgress → Row → Result CheckProgress Cause
judge_check progress fields = if is_check_kind fields then judge_check_kind progress fields else Err (why.Bad bad.Kind)

-- the file, where its end was told; else the row after the last one is refused
abbrev pub ended_check : ℕ × CheckProgress → Result CheckFile (ℕ × Cause)
ended_check (row, so_far.Start) = Err (row, why.Bad bad.End)
ended_check (row, so_far.Open file) = Err (row, why.Bad bad.End)
ended_check (row, so_far.Ended file) = Ok file

-- the check file that the bytes are, or the first row that is refused and its cause
abbrev pub check_of : List ℕ → Result CheckFile (ℕ × Cause)
check_of bytes = judged judge_check 1 so_far.Start (rows_of bytes) >>= ended_check
