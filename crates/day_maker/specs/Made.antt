-- The day file of a seed and a size z: its records, in their order. Fields are drawn in the order in which they are named.
use Rattle.std.specs.Prelude.{ℕ, zero, suc, ◌+◌, ◌*◌, ◌%◌, ◌==◌, nat_lt, if◌then◌else◌, List, [], ◌∷◌, ◌++◌, codes}
use Rattle.std.specs.Fmt.{decimal}
use Rattle.axle_train.specs.declared.axle.Axle.{Axle}
use Rattle.day_text.specs.Records.{Row}
use Rattle.day_maker.specs.Making.{Draws, Maker, ◌>>=◌, ◌>>◌, draw, drawn, each, put, when}
use Rattle.day_writer.specs.Texts.{axles_text, row, text_of}

-- a letter, a row, `-` and a column: the name of a place of the grid, or of something there
unfoldable pub cell : ℕ → ℕ → ℕ → List ℕ
cell letter r c = letter ∷ (decimal r ++ (45 ∷ decimal c))

-- a letter and a number
abbrev pub numbered_name : ℕ → ℕ → List ℕ
numbered_name letter n = letter ∷ decimal n

-- `n0-0`: the node of a row and a column
abbrev pub node_name : ℕ → ℕ → List ℕ
node_name r c = cell 110 r c

-- `e0-0`: the segment from a node to its neighbour in the next column
abbrev pub east_name : ℕ → ℕ → List ℕ
east_name r c = cell 101 r c

-- `w0-0`: the segment back to a node from its neighbour in the next column
abbrev pub west_name : ℕ → ℕ → List ℕ
west_name r c = cell 119 r c

-- `s0-0`: the segment from a node to its neighbour in the next row
abbrev pub south_name : ℕ → ℕ → List ℕ
south_name r c = cell 115 r c

-- `u0-0`: the segment back to a node from its neighbour in the next row
abbrev pub north_name : ℕ → ℕ → List ℕ
north_name r c = cell 117 r c

-- `b0-0`: the span on the segment to the east
abbrev pub span_name : ℕ → ℕ → List ℕ
span_name r c = cell 98 r c

-- `t1`: a truck
abbrev pub truck_name : ℕ → List ℕ
truck_name t = numbered_name 116 t

-- `c1`: a carrier
abbrev pub carrier_name : ℕ → List ℕ
carrier_name k = numbered_name 99 k

-- `a1`: an actor who applies
abbrev pub actor_name : ℕ → List ℕ
actor_name a = numbered_name 97 a

-- the first record: the day is 2026-01-01
abbrev pub opening : Maker
opening = put (row (codes "day" ∷ codes "2026-01-01" ∷ []))

-- a node, by its row and its column
unfoldable pub node : ℕ → ℕ → Maker
node r c = put (row (codes "node" ∷ node_name r c ∷ []))

-- the nodes: z + 1 rows of z + 1 each
abbrev pub nodes : ℕ → Maker
nodes z = each 0 (z + 1) (λ r. each 0 (z + 1) (λ c. node r c))

-- a segment, by its name, the nodes where it begins and ends, and its length in feet
abbrev pub segment : List ℕ → List ℕ → List ℕ → ℕ → Maker
segment name from to feet = put (row (codes "segment" ∷ name ∷ from ∷ to ∷ decimal feet ∷ []))

-- two segments between two nodes, there and back by their names, of one drawn length
abbrev pub both_ways : List ℕ → List ℕ → List ℕ → List ℕ → Maker
both_ways out back here there = do
  feet ← draw 4000
  segment out here there (1000 + feet)
  segment back there here (1000 + feet)

-- the two segments that join a node to its neighbour in the next column, there and back, of one drawn length
unfoldable pub eastward : ℕ → ℕ → Maker
eastward r c = do
  feet ← draw 4000
  segment (east_name r c) (node_name r c) (node_name r (c + 1)) (1000 + feet)
  segment (west_name r c) (node_name r (c + 1)) (node_name r c) (1000 + feet)

-- the two segments that join a node to its neighbour in the next row, there and back, of one drawn length
unfoldable pub southward : ℕ → ℕ → Maker
southward r c = do
  feet ← draw 4000
  segment (south_name r c) (node_name r c) (node_name (r + 1) c) (1000 + feet)
  segment (north_name r c) (node_name (r + 1) c) (node_name r c) (1000 + feet)

-- the segments that join a node to its neighbours in the next column and in the next row, where there are such
abbrev pub joining_segments : ℕ → ℕ → ℕ → Maker
joining_segments z r c = when (nat_lt c z) (eastward r c) >> when (nat_lt r z) (southward r c)

-- the segments: of each node the two that join it to its neighbour in the next column, and then those to the next row
abbrev pub segments : ℕ → Maker
segments z = each 0 (z + 1) (λ r. each 0 (z + 1) (λ c. joining_segments z r c))

-- a span on the segment to the east, of a drawn length and a drawn rating
unfoldable pub span : ℕ → ℕ → Maker
span r c = do
  inches ← draw 80
  rating ← draw 1500
  put (row (codes "span" ∷ span_name r c ∷ east_name r c ∷ decimal (240 + 12 * inches) ∷ decimal (800 + rating) ∷ []))

-- the spans: one on each segment to the east
abbrev pub spans : ℕ → Maker
spans z = each 0 (z + 1) (λ r. each 0 z (λ c. span r c))

-- axles behind the first one, the next at this place: 54 in apart, each of a drawn weight
abbrev pub more_axles : ℕ → ℕ → Draws (List Axle)
more_axles zero place = λ x. ([], x)
more_axles (suc count) place = λ x.
    let rest = more_axles count (place + 54) (drawn x) in
    (record { place = place; weight = 16000 + 500 * (drawn x % 20) } ∷ rest.0, rest.1)

-- the first axle of 12,000 lb, and so many behind it
unfoldable pub axles : ℕ → Draws (List Axle)
axles more = λ x. let behind = more_axles more 180 x in (record { place = 0; weight = 12000 } ∷ behind.0, behind.1)

-- a truck of one of two carriers, with a drawn height, a drawn width and five to eight axles
unfoldable pub truck : ℕ → Maker
truck t = do
  height ← draw 20
  width ← draw 60
  more ← draw 4
  train ← axles (4 + more)
  put (row (codes "truck" ∷ truck_name t ∷ carrier_name (t % 2) ∷ decimal (160 + height) ∷ decimal (100 + width) ∷ decimal 900 ∷ axles_text train ∷ []))

-- the trucks: four, of two carriers
abbrev pub trucks : Maker
trucks = each 1 4 truck

-- an actor, by the name
abbrev pub actor : List ℕ → Maker
actor name = put (row (codes "actor" ∷ name ∷ []))

-- the actors: three who apply, and an engineer who posts
unfoldable pub actors : Maker
actors = do
  actor (actor_name 1)
  actor (actor_name 2)
  actor (actor_name 3)
  actor (codes "eng")

-- a posting of a height on a segment to the east
unfoldable pub posting : ℕ → Maker
posting z = do
  r ← draw (z + 1)
  c ← draw z
  inches ← draw 60
  put (row (codes "post" ∷ codes "eng" ∷ east_name r c ∷ codes "height" ∷ decimal (150 + inches) ∷ []))

-- an application from the first node to the last one, for the days of a year, in which no route is asked
unfoldable pub application : ℕ → Maker
application z = do
  a ← draw 3
  t ← draw 4
  put (row (codes "apply" ∷ actor_name (1 + a) ∷ truck_name (1 + t) ∷ node_name 0 0 ∷ node_name z z ∷ [] ∷ codes "2026-01-01" ∷ codes "2026-12-31" ∷ []))

-- a command: a posting where the number that is drawn below 4 is 0, and else an application
unfoldable pub command : ℕ → Maker
command z = do
  kind ← draw 4
  if kind == 0 then posting z else application z

-- the commands: 20 * z of them
abbrev pub commands : ℕ → Maker
commands z = each 0 (20 * z) (λ i. command z)

-- the last record, with which the file ends
abbrev pub last_record : Maker
last_record = put (row (codes "end" ∷ []))

-- the whole file
abbrev pub day_maker : ℕ → Maker
day_maker z = do
  opening
  nodes z
  segments z
  spans z
  trucks
  actors
  commands z
  last_record

-- the records of the day file that is made of a seed and a size
abbrev pub made_rows : ℕ → ℕ → List Row
made_rows seed size = (day_maker size seed).rows

-- the text of the day file that is made of a seed and a size
unfoldable pub made_day : ℕ → ℕ → List ℕ
made_day seed size = text_of (made_rows seed size)
