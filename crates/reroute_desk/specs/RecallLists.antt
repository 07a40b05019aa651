-- The recalls of a history: which permits its postings recall, and the carriers of their trucks.
use Rattle.std.specs.Prelude.{ℕ, ◌<◌, List, [], length, map, Option, Some, None, All}
use Rattle.std.specs.List.{flat_map}
use Rattle.notice_desk.specs.declared.notice.Recall.{Recall}
use Rattle.trip_analysis.specs.Bases.{BaseLists, truck_of}
use Rattle.office_words.specs.declared.entry.Call.{Call}
use Rattle.office_words.specs.declared.entry.Reply.{Reply}
use Rattle.office_words.specs.declared.entry.Reply.TheVariants as reply
use Rattle.office_core.specs.Happened.{History}
use Rattle.reroute_desk.specs.Issues.{issued_by, told_of_issued, recalled_numbers}

-- the truck for which a call and its answer issue the permit of a number, where they do
abbrev pub truck_by : ℕ → Call → Reply → Option ℕ
truck_by n c r = issued_by (λ a. a.truck) n c r

-- the truck of a permit
abbrev pub truck_in : History → ℕ → Option ℕ
truck_in es n = told_of_issued (λ a. a.truck) es n

-- the carrier of a truck
abbrev pub carrier_of : BaseLists → Option ℕ → List ℕ
carrier_of base (Some truck) = (truck_of base truck).carrier
carrier_of base None = []

-- the recall of a permit by the posting of a version, by what the trucks are
abbrev pub recall_of : BaseLists → (ℕ → Option ℕ) → ℕ → ℕ → Recall
recall_of base trucks v n = record { permit = n; version = v; carrier = carrier_of base (trucks n) }

-- the recalls of a posting's answer, in order, by what the trucks are; any other answer has none
abbrev pub recalls_by : BaseLists → (ℕ → Option ℕ) → Reply → List Recall
recalls_by base trucks (reply.Posted v ns) = map (recall_of base trucks v) ns
recalls_by base trucks _ = []

-- every number that a posting recalls, in order, with its version and the carrier of the permit's truck
abbrev pub recalls_in : BaseLists → History → List Recall
recalls_in base es = flat_map (λ e. recalls_by base (truck_in es) e.reply) es

-- what is known of a permit's truck is the number of one that is there
abbrev pub HasTruck : BaseLists → Option ℕ → Type 0
HasTruck base (Some truck) = truck < length base.fleet
HasTruck base None = ⊥

-- the truck of each permit that an answer recalls is known and there
abbrev pub HasTrucks : BaseLists → (ℕ → Option ℕ) → Reply → Type 0
HasTrucks base trucks r = All (λ n. HasTruck base (trucks n)) (recalled_numbers r)
