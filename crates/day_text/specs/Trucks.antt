-- The record of a truck: truck,NAME,CARRIER,HEIGHT,WIDTH,LENGTH,AXLES
use Rattle.std.specs.Prelude.{ℕ, List, [], ◌∷◌, Result, Ok}
use Rattle.axle_train.specs.declared.axle.Axle.{Axle}
use Rattle.axle_train.specs.declared.refusal.TrainRefusal.{TrainRefusal}
use Rattle.axle_train.specs.declared.refusal.TrainRefusal.TheVariants.{TooFew, TooMany, PlaceOrder, Weight, Gross, TooLong}
use Rattle.axle_train.specs.Refusals.{refusal_of}
use Rattle.day_text.specs.Causes.{◌>>=◌, demand, unless_refused}
use Rattle.day_text.specs.Forms.{Axles, Name, Number, said_in}
use Rattle.day_text.specs.Records.{Row}
use Rattle.clearance_rules.specs.Loads.{LoadParts, is_cross_section, is_length}
use Rattle.day_text.specs.declared.truck.TruckFields.{TruckFields}
use Rattle.day_text.specs.declared.refusal.Cause.{Cause}
use Rattle.day_text.specs.declared.refusal.RecordCause.TheVariants as bad

-- the fields of the record, each in its form
unfoldable pub truck_fields_of : Row → Result TruckFields Cause
truck_fields_of fields = do
  (name, (carrier, (height, (width, (long, (axles, rest)))))) ← said_in (Name ∷ Name ∷ Number ∷ Number ∷ Number ∷ Axles ∷ []) fields
  Ok (record { name = name; carrier = carrier; height = height; width = width; length = long; axles = axles })

-- the rule that a refused train breaks, by the number that it prints
abbrev pub train_number : TrainRefusal → ℕ
train_number TooFew = 1
train_number TooMany = 2
train_number (PlaceOrder at) = 3
train_number (Weight at) = 4
train_number Gross = 5
train_number TooLong = 6

-- a load: each number in its range, and then the train
unfoldable pub load_of : ℕ → ℕ → ℕ → List Axle → Result LoadParts Cause
load_of height width long axles = do
  a ← demand (is_cross_section height) (bad.Range 4)
  b ← demand (is_cross_section width) (bad.Range 5)
  c ← demand (is_length long) (bad.Range 6)
  train ← unless_refused (λ refusal. bad.Train (train_number refusal)) axles (refusal_of axles)
  Ok (record { height = height; width = width; length = long; train = train })
