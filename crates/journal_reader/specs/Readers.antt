-- What words spell: each function gives what it found and the words that follow. They are the inverses of the functions
-- that put words in front of others.
use Rattle.std.specs.Prelude.{[], ◌∷◌, ℕ, List, Bool, true, codes, if◌then◌else◌, Option, Some, None, option_map, IfSome, nat_le, ◌≡◌}
use Rattle.std.specs.Str.{bytes_eq}
use Rattle.std.specs.Borrow.{Bor}
use Rattle.influence_line.specs.Fractions.{Ratio}
use Rattle.restriction_log.specs.declared.change.Change.{Change}
use Rattle.restriction_log.specs.declared.change.Change.TheVariants as change
use Rattle.restriction_log.specs.Changes.{change_of}
use Rattle.road_graph.specs.Words.{what_of}
use Rattle.road_graph.specs.declared.values.What.{What}
use Rattle.road_graph.specs.declared.values.What.TheVariants.{Closed}
use Rattle.clearance_rules.specs.declared.limit.Limit.{Limit}
use Rattle.clearance_rules.specs.declared.limit.Limit.TheVariants as limit
use Rattle.trip_analysis.specs.declared.application.Application.{Application}
use Rattle.trip_analysis.specs.declared.finding.What.{What as Found}
use Rattle.trip_analysis.specs.declared.finding.What.TheVariants as what
use Rattle.permit_book.specs.declared.permit.Status.{Status}
use Rattle.permit_book.specs.declared.permit.Status.TheVariants as status
use Rattle.office_words.specs.declared.entry.Call.{Call}
use Rattle.office_words.specs.declared.entry.Call.TheVariants as call
use Rattle.office_words.specs.declared.entry.Cause.{Cause}
use Rattle.office_words.specs.declared.entry.Cause.TheVariants as cause
use Rattle.office_words.specs.declared.entry.Reply.{Reply}
use Rattle.office_words.specs.declared.entry.Reply.TheVariants as reply
use Rattle.office_words.specs.declared.entry.Entry.{Entry}
use Rattle.journal_text.specs.Words.{Words, index, list_text, routes_text}
use Rattle.journal_text.specs.Entries.{call_words, days_words, limit_words, reply_words}
use Rattle.journal_text.specs.declared.format.Format.{Format}
use Rattle.journal_reader.specs.Formats.{if_said}
use Rattle.journal_reader.specs.Fits.{FitsDay, FitsEntry, FitsIndex, FitsLimit, FitsReply}
use Rattle.journal_reader.specs.Words.{Spells, after_word, day_at, fraction_of, group_of, is_empty, list_of, number32, read_number, parts, place_at, place_of, routes_spelled, word_at, ◌>>=◌}

-- words that are read in one go
abbrev pub term_words : (List ℕ × List ℕ) → Words → Words
term_words d ws = days_words d.0 d.1 ws

abbrev pub FitsTerm : (List ℕ × List ℕ) → Type 0
FitsTerm d = FitsDay d.0 × FitsDay d.1

abbrev pub list_words : List ℕ → Words → Words
list_words xs ws = list_text index xs ∷ ws

abbrev pub lists_words : List (List ℕ) → Words → Words
lists_words routes ws = routes_text routes ∷ ws

-- the words of an entry's line
abbrev pub entry_words : Entry → Words
entry_words e = index e.caller ∷ call_words e.call (codes "=" ∷ reply_words e.reply [])

-- a reply behind `=`, and nothing behind it
abbrev pub IsLastReply : Words → Option Reply → Type 0
IsLastReply ws found = IfSome found (λ r. (ws ≡ codes "=" ∷ reply_words r []) × FitsReply r)

abbrev pub IsWordsOf : Words → Option Entry → Type 0
IsWordsOf ws found = IfSome found (λ e. (ws ≡ entry_words e) × FitsEntry e)

-- a limit of this segment was found behind this name
abbrev pub SpellsLimitOf : ℕ → List ℕ → Words → Option (Limit × Bor (List ℕ)) → Type 0
SpellsLimitOf segment named before found =
    FitsIndex segment → Spells limit_words FitsLimit (codes "segment" ∷ index segment ∷ named ∷ before) found

-- a list of numbers behind this word
unfoldable pub numbers_at : List ℕ → Words → Option (List ℕ × Words)
numbers_at named ws = do
  rest ← after_word named ws
  w ← word_at rest
  xs ← list_of number32 w.0
  Some (xs, w.1)

-- routes that stand here, and behind this word
unfoldable pub routes_at : Words → Option (List (List ℕ) × Words)
routes_at ws = do
  w ← word_at ws
  routes ← routes_spelled w.0
  Some (routes, w.1)

unfoldable pub named_routes : List ℕ → Words → Option (List (List ℕ) × Words)
named_routes named ws = do
  rest ← after_word named ws
  routes_at rest

-- a number or an index behind this word
unfoldable pub named_number : List ℕ → Words → Option (ℕ × Words)
named_number named ws = do
  rest ← after_word named ws
  read_number rest

unfoldable pub named_place : List ℕ → Words → Option (ℕ × Words)
named_place named ws = do
  rest ← after_word named ws
  place_at rest

-- a fraction
unfoldable pub fraction_at : Words → Option (Ratio × Words)
fraction_at ws = do
  w ← word_at ws
  f ← fraction_of w.0
  Some (f, w.1)

-- whether a value of this limit may stand in a journal: a segment is closed by 1 and open by 0
abbrev pub may_stand : What → ℕ → Bool
may_stand Closed n = nat_le n 1
may_stand other n = true

unfoldable pub segment_change : Words → Option (Change × Words)
segment_change ws = do
  s ← place_at ws
  named ← word_at s.1
  what ← what_of named.0
  n ← read_number named.1
  if may_stand what n.0 then Some (change_of s.0 what n.0, n.1) else None

unfoldable pub span_change : Words → Option (Change × Words)
span_change ws = do
  b ← place_at ws
  n ← named_number (codes "rating") b.1
  Some (change.Rating b.0 n.0, n.1)

unfoldable pub change_at : Words → Option (Change × Words)
change_at ws = do
  kind ← word_at ws
  if bytes_eq kind.0 (codes "segment") then segment_change kind.1
      else if bytes_eq kind.0 (codes "span") then span_change kind.1
      else None

unfoldable pub read_over_limit : ℕ → List ℕ → Words → Option (Limit × Words)
read_over_limit segment named ws = do
  has ← read_number ws
  allowed ← named_number (codes "over") has.1
  if bytes_eq named (codes "height") then Some (limit.Height segment has.0 allowed.0, allowed.1)
      else if bytes_eq named (codes "width") then Some (limit.Width segment has.0 allowed.0, allowed.1)
      else if bytes_eq named (codes "length") then Some (limit.Length segment has.0 allowed.0, allowed.1)
      else if bytes_eq named (codes "gross") then Some (limit.Gross segment has.0 allowed.0, allowed.1)
      else None

unfoldable pub read_group_limit : ℕ → Words → Option (Limit × Words)
read_group_limit segment ws = do
  w ← word_at ws
  g ← group_of w.0
  weight ← named_number (codes "weight") w.1
  most ← named_number (codes "limit") weight.1
  allowance ← named_number (codes "allowance") most.1
  Some (limit.Group segment g.0 g.1 weight.0 most.0 allowance.0, allowance.1)

unfoldable pub read_tridem_limit : ℕ → Words → Option (Limit × Words)
read_tridem_limit segment ws = do
  w ← word_at ws
  g ← group_of w.0
  weight ← named_number (codes "weight") w.1
  allowed ← named_number (codes "over") weight.1
  Some (limit.Tridem segment g.0 g.1 weight.0 allowed.0, allowed.1)

-- an effect behind its name
unfoldable pub effect_at : Words → Option ((Ratio × Ratio × ℕ) × Words)
effect_at ws = do
  has ← fraction_at ws
  rest ← after_word (codes "hs20") has.1
  design ← fraction_at rest
  rating ← named_number (codes "rating") design.1
  Some ((has.0, design.0, rating.0), rating.1)

unfoldable pub read_span_limit : ℕ → Words → Option (Limit × Words)
read_span_limit segment ws = do
  span ← place_at ws
  named ← word_at span.1
  e ← effect_at named.1
  if bytes_eq named.0 (codes "moment") then Some (limit.Moment segment span.0 e.0.0 e.0.1 e.0.2, e.1)
      else if bytes_eq named.0 (codes "shear") then Some (limit.Shear segment span.0 e.0.0 e.0.1 e.0.2, e.1)
      else None

unfoldable pub limit_at : Words → Option (Limit × Words)
limit_at ws = do
  s ← named_place (codes "segment") ws
  named ← word_at s.1
  if bytes_eq named.0 (codes "closed") then Some (limit.Closed s.0, named.1)
      else if bytes_eq named.0 (codes "group") then read_group_limit s.0 named.1
      else if bytes_eq named.0 (codes "tridem") then read_tridem_limit s.0 named.1
      else if bytes_eq named.0 (codes "span") then read_span_limit s.0 named.1
      else read_over_limit s.0 named.0 named.1

-- the first and the last day
unfoldable pub days_at : Words → Option ((List ℕ × List ℕ) × Words)
days_at ws = do
  rest ← after_word (codes "days") ws
  first ← day_at rest
  last ← day_at first.1
  Some ((first.0, last.0), last.1)

-- the asked routes, if any are asked for
unfoldable pub asked_at : Words → Option (Option (List (List ℕ)) × Words)
asked_at ws = do
  rest ← after_word (codes "asked") ws
  w ← word_at rest
  if bytes_eq w.0 (codes "none") then Some (None, w.1)
      else option_map (λ routes. (Some routes, w.1)) (routes_spelled w.0)

-- the truck, and the nodes where the trip begins and ends
unfoldable pub trip_at : Words → Option ((ℕ × ℕ × ℕ) × Words)
trip_at ws = do
  truck ← named_place (codes "truck") ws
  from ← named_place (codes "from") truck.1
  to ← named_place (codes "to") from.1
  Some ((truck.0, from.0, to.0), to.1)

unfoldable pub application_at : Words → Option (Application × Words)
application_at ws = do
  trip ← trip_at ws
  asked ← asked_at trip.1
  days ← days_at asked.1
  Some (record { truck = trip.0.0; from = trip.0.1; to = trip.0.2; asked = asked.0; first = days.0.0; last = days.0.1 }, days.1)

-- a list of indices that stands here
unfoldable pub list_at : Words → Option (List ℕ × Words)
list_at ws = do
  w ← word_at ws
  xs ← list_of place_of w.0
  Some (xs, w.1)

unfoldable pub what_at : Words → Option (Found × Words)
what_at ws = do
  kind ← word_at ws
  if bytes_eq kind.0 (codes "none") then Some (what.NotNeeded, kind.1)
      else if bytes_eq kind.0 (codes "route") then option_map (λ x. (what.Route x.0, x.1)) (routes_at kind.1)
      else if bytes_eq kind.0 (codes "fails") then option_map (λ s. (what.Fails s.0, s.1)) (place_at kind.1)
      else if bytes_eq kind.0 (codes "cut") then option_map (λ x. (what.Cut x.0, x.1)) (list_at kind.1)
      else None

unfoldable pub submit_at : Words → Option (Call × Words)
submit_at ws = do
  a ← application_at ws
  seen ← named_number (codes "seen") a.1
  found ← what_at seen.1
  Some (call.Submit a.0 (record { seen = seen.0; what = found.0 }), found.1)

unfoldable pub held_at : Words → Option (Call × Words)
held_at ws = do
  a ← application_at ws
  Some (call.Held a.0, a.1)

-- a call that holds no list
unfoldable pub plain_call : List ℕ → Words → Option (Call × Words)
plain_call kind ws =
    if bytes_eq kind (codes "snapshot") then Some (call.Snapshot, ws)
    else if bytes_eq kind (codes "post") then option_map (λ c. (call.Post c.0, c.1)) (change_at ws)
    else if bytes_eq kind (codes "day") then option_map (λ d. (call.Day d.0, d.1)) (day_at ws)
    else if bytes_eq kind (codes "surrender") then option_map (λ n. (call.Surrender n.0, n.1)) (read_number ws)
    else if bytes_eq kind (codes "show") then option_map (λ n. (call.Show n.0, n.1)) (read_number ws)
    else None

unfoldable pub call_at : Words → Option (Call × Words)
call_at ws = do
  kind ← word_at ws
  if bytes_eq kind.0 (codes "submit") then submit_at kind.1
      else if bytes_eq kind.0 (codes "held") then held_at kind.1
      else plain_call kind.0 kind.1

unfoldable pub status_at : Words → Option (Status × Words)
status_at ws = do
  w ← word_at ws
  if bytes_eq w.0 (codes "inforce") then Some (status.InForce, w.1)
      else if bytes_eq w.0 (codes "recalled") then option_map (λ n. (status.Recalled n.0, n.1)) (read_number w.1)
      else if bytes_eq w.0 (codes "surrendered") then Some (status.Surrendered, w.1)
      else if bytes_eq w.0 (codes "expired") then Some (status.Expired, w.1)
      else None

unfoldable pub cause_at : Words → Option (Cause × Words)
cause_at ws = do
  w ← word_at ws
  if bytes_eq w.0 (codes "fails") then option_map (λ l. (cause.NowFails l.0, l.1)) (limit_at w.1)
      else if bytes_eq w.0 (codes "meets") then option_map (λ s. (cause.NowMeets s.0, s.1)) (named_place (codes "segment") w.1)
      else None

unfoldable pub issued_at : Words → Option (Reply × Words)
issued_at ws = do
  number ← read_number ws
  version ← named_number (codes "at") number.1
  routes ← named_routes (codes "route") version.1
  Some (reply.Issued number.0 version.0 routes.0, routes.1)

unfoldable pub posted_at : Words → Option (Reply × Words)
posted_at ws = do
  version ← read_number ws
  recalled ← numbers_at (codes "recalled") version.1
  Some (reply.Posted version.0 recalled.0, recalled.1)

unfoldable pub refused_at : Words → Option (Reply × Words)
refused_at ws = do
  version ← read_number ws
  why ← limit_at version.1
  Some (reply.Refused version.0 why.0, why.1)

unfoldable pub outdated_at : Words → Option (Reply × Words)
outdated_at ws = do
  version ← read_number ws
  why ← cause_at version.1
  Some (reply.Outdated version.0 why.0, why.1)

-- whose permit is shown, and how it stands
unfoldable pub whose_at : Words → Option ((ℕ × ℕ × ℕ) × Words)
whose_at ws = do
  number ← read_number ws
  caller ← named_place (codes "caller") number.1
  truck ← named_place (codes "truck") caller.1
  Some ((number.0, caller.0, truck.0), truck.1)

unfoldable pub standing_at : Words → Option ((ℕ × ℕ × Status) × Words)
standing_at ws = do
  version ← named_number (codes "at") ws
  seen ← named_number (codes "seen") version.1
  now ← status_at seen.1
  Some ((version.0, seen.0, now.0), now.1)

unfoldable pub shown_at : Words → Option (Reply × Words)
shown_at ws = do
  whose ← whose_at ws
  days ← days_at whose.1
  standing ← standing_at days.1
  Some (reply.Shown whose.0.0 whose.0.1 whose.0.2 days.0.0 days.0.1 standing.0.0 standing.0.1 standing.0.2, standing.1)

-- a reply of one word
unfoldable pub bare_reply : List ℕ → Option Reply
bare_reply kind =
    if bytes_eq kind (codes "notneeded") then Some reply.NotNeeded
    else if bytes_eq kind (codes "noroad") then Some reply.NoRoad
    else if bytes_eq kind (codes "range") then Some reply.OutOfRange
    else if bytes_eq kind (codes "surrendered") then Some reply.Surrendered
    else if bytes_eq kind (codes "notyours") then Some reply.NotYours
    else if bytes_eq kind (codes "unknown") then Some reply.Unknown
    else if bytes_eq kind (codes "nomemory") then Some reply.NoMemory
    else None

-- a reply that holds no list
unfoldable pub plain_reply : List ℕ → Words → Option (Reply × Words)
plain_reply kind ws =
    if bytes_eq kind (codes "at") then option_map (λ n. (reply.SnapshotAt n.0, n.1)) (read_number ws)
    else if bytes_eq kind (codes "refused") then refused_at ws
    else if bytes_eq kind (codes "outdated") then outdated_at ws
    else if bytes_eq kind (codes "late") then option_map (λ d. (reply.Late d.0, d.1)) (day_at ws)
    else if bytes_eq kind (codes "day") then option_map (λ d. (reply.DayIs d.0, d.1)) (day_at ws)
    else if bytes_eq kind (codes "dayback") then option_map (λ d. (reply.DayBack d.0, d.1)) (day_at ws)
    else if bytes_eq kind (codes "notinforce") then option_map (λ s. (reply.NotInForce s.0, s.1)) (status_at ws)
    else if bytes_eq kind (codes "shown") then shown_at ws
    else option_map (λ r. (r, ws)) (bare_reply kind)

unfoldable pub reply_at : Words → Option (Reply × Words)
reply_at ws = do
  kind ← word_at ws
  if bytes_eq kind.0 (codes "issued") then issued_at kind.1
      else if bytes_eq kind.0 (codes "posted") then posted_at kind.1
      else plain_reply kind.0 kind.1

-- the reply with which a line ends
unfoldable pub last_reply : Words → Option Reply
last_reply ws = do
  rest ← after_word (codes "=") ws
  r ← reply_at rest
  if is_empty r.1 then Some r.0 else None

-- the entry of a line
unfoldable pub entry_of : List ℕ → Option Entry
entry_of line = do
  w ← word_at (parts 32 line)
  caller ← place_of w.0
  c ← call_at w.1
  reply ← last_reply c.1
  Some (record { caller = caller; call = c.0; reply = reply })

-- the entry of a line in a journal of this format
abbrev pub entry_in : Format → List ℕ → Option Entry
entry_in format line = if_said format (entry_of line)
