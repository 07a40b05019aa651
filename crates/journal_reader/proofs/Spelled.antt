-- What is spelled so is read, and holds no space and no line feed.
use Rattle.std.proofs.Common.{◌≡◌, ◌∙◌, ◌<◌, ◌+◌, ◌^◌, ◌∷◌, ◌++◌, [], ℕ, List, Option, Some, None, Bool, true, false, cond, eqb, refl, ap, sym, arith, length}
use Rattle.std.specs.Prelude.{codes, option_map}
use Rattle.std.specs.Fmt.{decimal, digits}
use Rattle.std.specs.Cmp.{first_so, second_so}
use Rattle.std.specs.List.{list_all}
use Rattle.std.specs.Str.{bytes_eq}
use Rattle.std.proofs.lemmas.Fmt.{decimal_is_IsNumeral_wide}
use Rattle.std.proofs.lemmas.Slice.Eq.{bytes_eq-Decides}
use Rattle.std.proofs.lemmas.Bool.{eq-eqb, le-leb, lt-ltb}
use Rattle.std.proofs.lemmas.List.Splits.{slice_split_at, slice_split_none}
use Rattle.influence_line.specs.Fractions.{Ratio, ratio_text}
use Rattle.permit_days.specs.Days.{day_of_month as day_in_month, has_shape, is_day, month_of, year_of}
use Rattle.restriction_log.specs.declared.change.Change.{Change}
use Rattle.restriction_log.specs.declared.change.Change.TheVariants as change
use Rattle.restriction_log.specs.declared.change.Replaced.{Replaced}
use Rattle.restriction_log.specs.declared.change.Replaced.TheVariants as replaced
use Rattle.restriction_log.specs.Changes.{replaced_by}
use Rattle.road_graph.specs.Words.{what_word}
use Rattle.road_graph.specs.declared.values.What.{What as Limited}
use Rattle.road_graph.specs.declared.values.What.TheVariants as road_what
use Rattle.clearance_rules.specs.declared.limit.Limit.{Limit}
use Rattle.clearance_rules.specs.declared.limit.Limit.TheVariants as limit
use Rattle.trip_analysis.specs.declared.application.Application.{Application}
use Rattle.trip_analysis.specs.declared.finding.What.{What}
use Rattle.trip_analysis.specs.declared.finding.What.TheVariants as what
use Rattle.permit_book.specs.declared.permit.Status.{Status}
use Rattle.permit_book.specs.declared.permit.Status.TheVariants as status
use Rattle.office_words.specs.declared.entry.Call.{Call}
use Rattle.office_words.specs.declared.entry.Call.TheVariants as call
use Rattle.office_words.specs.declared.entry.Cause.{Cause}
use Rattle.office_words.specs.declared.entry.Cause.TheVariants as cause
use Rattle.office_words.specs.declared.entry.Reply.{Reply}
use Rattle.office_words.specs.declared.entry.Reply.TheVariants as reply
use Rattle.office_words.specs.declared.entry.Entry.{Entry}
use Rattle.journal_text.specs.Words.{Words, group, index, list_text, routes_text, spaced}
use Rattle.journal_text.specs.Entries.{application_words, asked_words, call_words, cause_words, change_words, days_words, limit_words, replaced_words, reply_words, standing_words, status_words, what_words}
use Rattle.journal_text.specs.Journals.{line_of}
use Rattle.journal_reader.specs.Words.{day_at, day_spelled, fraction_of, group_of, list_of, number32, read_number, number_spelled, pair_of, parts, place_at, place_of, routes_spelled, wide_of}
use Rattle.journal_reader.specs.Fits.{FitsApplication, FitsAsked, FitsCall, FitsCause, FitsChange, FitsDay, FitsEntry, FitsIndex, FitsIndices, FitsLimit, FitsNumber, FitsNumbers, FitsRatio, FitsReply, FitsRoutes, FitsStatus, FitsWhat}
use Rattle.journal_reader.specs.Readers.{application_at, asked_at, bare_reply, call_at, cause_at, change_at, days_at, effect_at, entry_of, entry_words, fraction_at, read_group_limit, held_at, issued_at, last_reply, limit_at, list_at, named_number, named_place, named_routes, numbers_at, outdated_at, read_over_limit, plain_call, plain_reply, posted_at, refused_at, reply_at, routes_at, segment_change, shown_at, span_change, read_span_limit, standing_at, status_at, submit_at, read_tridem_limit, trip_at, what_at, whose_at}
use Rattle.journal_reader.proofs.Lowest.{lowest_test}
use Rattle.journal_reader.proofs.Clean.{all_again, all_append, all_words, is_dark, is_no, is_word, joined_all, keeps, left_spaced, list_again, no_digit, parts_joined, word_day, word_index, word_indices, word_number, word_numbers, word_routes}

-- single words
number_again : (bound n : ℕ) → n < bound → n < 10 ^ 64 → number_spelled bound (decimal n) ≡ Some n
unfolding number_spelled
number_again bound n h k =
    rw ((decimal_is_IsNumeral_wide n k).1, (bytes_eq-Decides (decimal n) (decimal n)).1 refl, lt-ltb n bound h) refl

number_at_again : (n : ℕ) (ws : Words) → n < 2 ^ 32 → read_number (decimal n ∷ ws) ≡ Some (n, ws)
unfolding read_number
number_at_again n ws h = rw (number_again (2 ^ 32) n h (omega arith)) refl

place_again : (i : ℕ) → i < 65536 → place_of (index i) ≡ Some i
unfolding place_of
place_again i h = rw (number_again (2 ^ 32) (i + 1) (omega arith) (omega arith), le-leb 1 (i + 1) (omega arith), le-leb (i + 1) 65536 (omega arith)) (ap Some (omega arith))

place_at_again : (i : ℕ) (ws : Words) → i < 65536 → place_at (index i ∷ ws) ≡ Some (i, ws)
unfolding place_at
place_at_again i ws h = rw (place_again i h) refl

day_again : (day : List ℕ) → FitsDay day → day_spelled day ≡ Some day
unfolding day_spelled
day_again day h =
    let is_there = is_day (year_of day) (month_of day) (day_in_month day) in
    rw (first_so (has_shape day) is_there h, second_so (has_shape day) is_there h) refl

day_at_again : (day : List ℕ) (ws : Words) → FitsDay day → day_at (day ∷ ws) ≡ Some (day, ws)
unfolding day_at
day_at_again day ws h = rw (day_again day h) refl

number_dash : number32 (codes "-") ≡ None
unfolding number_spelled digits
number_dash = refl

place_dash : place_of (codes "-") ≡ None
unfolding place_of number_spelled digits
place_dash = refl

none_is_no_route : routes_spelled (codes "none") ≡ None
unfolding routes_spelled list_of place_of number_spelled digits
none_is_no_route = refl

numbers_again : (xs : List ℕ) → FitsNumbers xs → list_of number32 (list_text decimal xs) ≡ Some xs
numbers_again xs h = list_again number32 decimal FitsNumber (λ n k. number_again (2 ^ 32) n k (omega arith)) (λ n. no_digit 44 (omega arith) n) number_dash xs h

indices_again : (xs : List ℕ) → FitsIndices xs → list_of place_of (list_text index xs) ≡ Some xs
indices_again xs h = list_again place_of index FitsIndex place_again (λ i. no_digit 44 (omega arith) (i + 1)) place_dash xs h

no_slash : (xs : List ℕ) → list_all (is_no 47) (list_text index xs) ≡ true
no_slash [] = refl
no_slash (x ∷ xs) = joined_all (is_no 47) 44 index refl (λ i. no_digit 47 (omega arith) (i + 1)) (x ∷ xs)

routes_again : (routes : List (List ℕ)) → FitsRoutes routes → routes_spelled (routes_text routes) ≡ Some routes
unfolding routes_spelled
routes_again [] (are, fits) = absurd (omega (arith, are.some))
routes_again (route ∷ routes) (are, fits) =
    rw (parts_joined 47 (list_text index) no_slash route routes, all_again (list_of place_of) (list_text index) FitsIndices indices_again (route ∷ routes) fits, le-leb (length (route ∷ routes)) 8 are.few) refl

pair_again : {A B : Type 0} (sep : ℕ) (one : List ℕ → Option A) (two : List ℕ → Option B) (a b : List ℕ) (x : A) (y : B) → list_all (is_no sep) a ≡ true → list_all (is_no sep) b ≡ true → one a ≡ Some x → two b ≡ Some y → pair_of sep one two (a ++ (sep ∷ b)) ≡ Some (x, y)
unfolding pair_of
pair_again sep one two a b x y h k p q =
    let cut : parts sep (a ++ (sep ∷ b)) ≡ a ∷ b ∷ [] = slice_split_at (λ c. eqb c sep) a sep b (keeps sep a h) (eq-eqb sep sep refl) ∙ ap (λ t. a ∷ t) (slice_split_none (λ c. eqb c sep) b (keeps sep b k)) in
    rw (cut, p, q) refl

fraction_again : (f : Ratio) → FitsRatio f → fraction_of (ratio_text f) ≡ Some f
unfolding fraction_of
fraction_again f (h, k, l) = rw (pair_again 47 wide_of wide_of (decimal f.num) (decimal f.den) f.num f.den (no_digit 47 (omega arith) f.num) (no_digit 47 (omega arith) f.den) (number_again (2 ^ 128) f.num h (omega arith)) (number_again (2 ^ 128) f.den k (omega arith)), lowest_test f l) refl

fraction_at_again : (f : Ratio) (ws : Words) → FitsRatio f → fraction_at (ratio_text f ∷ ws) ≡ Some (f, ws)
unfolding fraction_at
fraction_at_again f ws h = rw (fraction_again f h) refl

group_again : (i j : ℕ) → i < 65536 → j < 65536 → group_of (group i j) ≡ Some (i, j)
unfolding group_of
group_again i j h k = pair_again 45 place_of place_of (index i) (index j) i j (no_digit 45 (omega arith) (i + 1)) (no_digit 45 (omega arith) (j + 1)) (place_again i h) (place_again j k)

-- a line for each form
change_again : (c : Change) (ws : Words) → FitsChange c → change_at (change_words c ws) ≡ Some (c, ws)
unfolding change_at segment_change span_change named_number
change_again (change.Closed s true) ws (h, k) = rw (place_at_again s, number_at_again 1) refl
change_again (change.Closed s false) ws (h, k) = rw (place_at_again s, number_at_again 0) refl
change_again (change.Height s n) ws (h, k) = rw (place_at_again s, number_at_again n) refl
change_again (change.Width s n) ws (h, k) = rw (place_at_again s, number_at_again n) refl
change_again (change.Length s n) ws (h, k) = rw (place_at_again s, number_at_again n) refl
change_again (change.Gross s n) ws (h, k) = rw (place_at_again s, number_at_again n) refl
change_again (change.Allowance s n) ws (h, k) = rw (place_at_again s, number_at_again n) refl
change_again (change.Tridem s n) ws (h, k) = rw (place_at_again s, number_at_again n) refl
change_again (change.Rating s n) ws (h, k) = rw (place_at_again s, number_at_again n) refl

effect_again : (name : List ℕ) (f g : Ratio) (n : ℕ) (ws : Words) → FitsRatio f → FitsRatio g → FitsNumber n → effect_at (ratio_text f ∷ codes "hs20" ∷ ratio_text g ∷ codes "rating" ∷ decimal n ∷ ws) ≡ Some ((f, g, n), ws)
unfolding effect_at named_number
effect_again name f g n ws hf hg hn = rw (fraction_at_again f _ hf, fraction_at_again g _ hg, number_at_again n) refl

limit_again : (l : Limit) (ws : Words) → FitsLimit l → limit_at (limit_words l ws) ≡ Some (l, ws)
unfolding limit_at read_group_limit read_tridem_limit read_span_limit read_over_limit named_number named_place
limit_again (limit.Closed s) ws h = rw (place_at_again s) refl
limit_again (limit.Height s n m) ws (h, k, l) = rw (place_at_again s, number_at_again n, number_at_again m) refl
limit_again (limit.Width s n m) ws (h, k, l) = rw (place_at_again s, number_at_again n, number_at_again m) refl
limit_again (limit.Length s n m) ws (h, k, l) = rw (place_at_again s, number_at_again n, number_at_again m) refl
limit_again (limit.Gross s n m) ws (h, k, l) = rw (place_at_again s, number_at_again n, number_at_again m) refl
limit_again (limit.Group s i j w m a) ws (h, hi, hj, hw, hm, ha) = rw (place_at_again s, group_again i j hi hj, number_at_again w, number_at_again m, number_at_again a) refl
limit_again (limit.Tridem s i j w a) ws (h, hi, hj, hw, ha) = rw (place_at_again s, group_again i j hi hj, number_at_again w, number_at_again a) refl
limit_again (limit.Moment s b f g r) ws (h, k, hf, hg, hr) = rw (place_at_again s, place_at_again b, effect_again (codes "moment") f g r ws hf hg hr) refl
limit_again (limit.Shear s b f g r) ws (h, k, hf, hg, hr) = rw (place_at_again s, place_at_again b, effect_again (codes "shear") f g r ws hf hg hr) refl

asked_again : (a : Option (List (List ℕ))) (ws : Words) → FitsAsked a → asked_at (asked_words a ws) ≡ Some (a, ws)
unfolding asked_at
asked_again None ws h = refl
asked_again (Some routes) ws h = by (bytes_eq (routes_text routes) (codes "none")) refl
  where
    by : (b : Bool) → bytes_eq (routes_text routes) (codes "none") ≡ b → cond {A = Option (Option (List (List ℕ)) × Words)} b (Some (None, ws)) (option_map (λ r. (Some r, ws)) (routes_spelled (routes_text routes))) ≡ Some (Some routes, ws)
    by false e = rw (routes_again routes h) refl
    by true e = absurd (differ (sym (routes_again routes h) ∙ (ap routes_spelled ((bytes_eq-Decides (routes_text routes) (codes "none")).0 e) ∙ none_is_no_route)))
      where
        differ : Some routes ≡ None → ⊥
        differ q = cc

days_again : (first last : List ℕ) (ws : Words) → FitsDay first → FitsDay last → days_at (days_words first last ws) ≡ Some ((first, last), ws)
unfolding days_at
days_again first last ws h k = rw (day_at_again first _ h, day_at_again last _ k) refl

application_again : (a : Application) (ws : Words) → FitsApplication a → application_at (application_words a ws) ≡ Some (a, ws)
unfolding application_at trip_at named_place
application_again a ws (t, f, g, h, k, l) = rw (place_at_again a.truck, place_at_again a.from, place_at_again a.to, asked_again a.asked _ h, days_again a.first a.last _ k l) refl

what_again : (w : What) (ws : Words) → FitsWhat w → what_at (what_words w ws) ≡ Some (w, ws)
unfolding what_at list_at routes_at
what_again what.NotNeeded ws h = refl
what_again (what.Route routes) ws h = rw (routes_again routes h) refl
what_again (what.Fails s) ws h = rw (place_at_again s) refl
what_again (what.Cut xs) ws h = rw (indices_again xs h) refl

call_again : (c : Call) (ws : Words) → FitsCall c → call_at (call_words c ws) ≡ Some (c, ws)
unfolding call_at plain_call submit_at held_at named_number
call_again call.Snapshot ws h = refl
call_again (call.Submit a p) ws (h, k, l) = rw (application_again a _ h, number_at_again p.seen, what_again p.what _ l) refl
call_again (call.Held a) ws h = rw (application_again a _ h) refl
call_again (call.Post c) ws h = rw (change_again c ws h) refl
call_again (call.Day d) ws h = rw (day_at_again d ws h) refl
call_again (call.Surrender n) ws h = rw (number_at_again n) refl
call_again (call.Show n) ws h = rw (number_at_again n) refl

status_again : (s : Status) (ws : Words) → FitsStatus s → status_at (status_words s ws) ≡ Some (s, ws)
unfolding status_at
status_again status.InForce ws h = refl
status_again (status.Recalled v) ws h = rw (number_at_again v) refl
status_again status.Surrendered ws h = refl
status_again status.Expired ws h = refl

cause_again : (c : Cause) (ws : Words) → FitsCause c → cause_at (cause_words c ws) ≡ Some (c, ws)
unfolding cause_at named_place
cause_again (cause.NowFails l) ws h = rw (limit_again l ws h) refl
cause_again (cause.NowMeets s) ws h = rw (place_at_again s) refl

whose_again : (n c t : ℕ) (ws : Words) → FitsNumber n → FitsIndex c → FitsIndex t → whose_at (decimal n ∷ codes "caller" ∷ index c ∷ codes "truck" ∷ index t ∷ ws) ≡ Some ((n, c, t), ws)
unfolding whose_at named_place
whose_again n c t ws h k l = rw (number_at_again n, place_at_again c, place_at_again t) refl

standing_again : (v n : ℕ) (s : Status) (ws : Words) → FitsNumber v → FitsNumber n → FitsStatus s → standing_at (standing_words v n s ws) ≡ Some ((v, n, s), ws)
unfolding standing_at named_number
standing_again v n s ws h k l = rw (number_at_again v, number_at_again n, status_again s ws l) refl

reply_again : (r : Reply) (ws : Words) → FitsReply r → reply_at (reply_words r ws) ≡ Some (r, ws)
unfolding reply_at issued_at posted_at plain_reply refused_at outdated_at shown_at bare_reply named_routes routes_at numbers_at named_number
reply_again (reply.SnapshotAt v) ws h = rw (number_at_again v) refl
reply_again (reply.Issued n v routes) ws (h, k, l) = rw (number_at_again n, number_at_again v, routes_again routes l) refl
reply_again (reply.Refused v l) ws (h, k) = rw (number_at_again v, limit_again l ws k) refl
reply_again (reply.Outdated v c) ws (h, k) = rw (number_at_again v, cause_again c ws k) refl
reply_again reply.NotNeeded ws h = refl
reply_again reply.NoRoad ws h = refl
reply_again (reply.Late d) ws h = rw (day_at_again d ws h) refl
reply_again (reply.Posted v xs) ws (h, k) = rw (number_at_again v, numbers_again xs k) refl
reply_again reply.OutOfRange ws h = refl
reply_again (reply.DayIs d) ws h = rw (day_at_again d ws h) refl
reply_again (reply.DayBack d) ws h = rw (day_at_again d ws h) refl
reply_again reply.Surrendered ws h = refl
reply_again reply.NotYours ws h = refl
reply_again reply.Unknown ws h = refl
reply_again (reply.NotInForce s) ws h = rw (status_again s ws h) refl
reply_again (reply.Shown n c t f l v s now) ws (hn, hc, ht, hf, hl, hv, hs, h) = rw (whose_again n c t _ hn hc ht, days_again f l _ hf hl, standing_again v s now ws hv hs h) refl
reply_again (reply.Full n) ws h = absurd h
reply_again reply.NoMemory ws h = refl

-- no space and no line feed: a line for each form
word_of_what : (w : Limited) → is_word (what_word w) ≡ true
word_of_what road_what.Closed = refl
word_of_what road_what.Height = refl
word_of_what road_what.Width = refl
word_of_what road_what.Length = refl
word_of_what road_what.Gross = refl
word_of_what road_what.Allowance = refl
word_of_what road_what.Tridem = refl

replaced_clean : (r : Replaced) (ws : Words) → all_words (replaced_words r ws) ≡ all_words ws
replaced_clean (replaced.Limit s what n) ws = rw (word_index s, word_of_what what, word_number n) refl
replaced_clean (replaced.Rating s n) ws = rw (word_index s, word_number n) refl

change_clean : (c : Change) (ws : Words) → all_words (change_words c ws) ≡ all_words ws
change_clean c ws = replaced_clean (replaced_by c) ws

word_ratio : (f : Ratio) → is_word (ratio_text f) ≡ true
word_ratio f = all_append is_dark (decimal f.num) (47 ∷ decimal f.den) (word_number f.num) (word_number f.den)

word_group : (i j : ℕ) → is_word (group i j) ≡ true
word_group i j = all_append is_dark (index i) (45 ∷ index j) (word_index i) (word_index j)

limit_clean : (l : Limit) (ws : Words) → all_words (limit_words l ws) ≡ all_words ws
limit_clean (limit.Closed s) ws = rw (word_index s) refl
limit_clean (limit.Height s n m) ws = rw (word_index s, word_number n, word_number m) refl
limit_clean (limit.Width s n m) ws = rw (word_index s, word_number n, word_number m) refl
limit_clean (limit.Length s n m) ws = rw (word_index s, word_number n, word_number m) refl
limit_clean (limit.Gross s n m) ws = rw (word_index s, word_number n, word_number m) refl
limit_clean (limit.Group s i j w m a) ws = rw (word_index s, word_group i j, word_number w, word_number m, word_number a) refl
limit_clean (limit.Tridem s i j w a) ws = rw (word_index s, word_group i j, word_number w, word_number a) refl
limit_clean (limit.Moment s b f g r) ws = rw (word_index s, word_index b, word_ratio f, word_ratio g, word_number r) refl
limit_clean (limit.Shear s b f g r) ws = rw (word_index s, word_index b, word_ratio f, word_ratio g, word_number r) refl

asked_clean : (a : Option (List (List ℕ))) (ws : Words) → all_words (asked_words a ws) ≡ all_words ws
asked_clean None ws = refl
asked_clean (Some routes) ws = rw (word_routes routes) refl

days_clean : (first last : List ℕ) (ws : Words) → FitsDay first → FitsDay last → all_words (days_words first last ws) ≡ all_words ws
days_clean first last ws h k = rw (word_day first h, word_day last k) refl

application_clean : (a : Application) (ws : Words) → FitsApplication a → all_words (application_words a ws) ≡ all_words ws
application_clean a ws (t, f, g, h, k, l) = rw (word_index a.truck, word_index a.from, word_index a.to) (asked_clean a.asked (days_words a.first a.last ws) ∙ days_clean a.first a.last ws k l)

what_clean : (w : What) (ws : Words) → all_words (what_words w ws) ≡ all_words ws
what_clean what.NotNeeded ws = refl
what_clean (what.Route routes) ws = rw (word_routes routes) refl
what_clean (what.Fails s) ws = rw (word_index s) refl
what_clean (what.Cut xs) ws = rw (word_indices xs) refl

call_clean : (c : Call) (ws : Words) → FitsCall c → all_words (call_words c ws) ≡ all_words ws
call_clean call.Snapshot ws h = refl
call_clean (call.Submit a p) ws (h, k, l) = application_clean a _ h ∙ rw (word_number p.seen) (what_clean p.what ws)
call_clean (call.Held a) ws h = application_clean a ws h
call_clean (call.Post c) ws h = change_clean c ws
call_clean (call.Day d) ws h = rw (word_day d h) refl
call_clean (call.Surrender n) ws h = rw (word_number n) refl
call_clean (call.Show n) ws h = rw (word_number n) refl

status_clean : (s : Status) (ws : Words) → all_words (status_words s ws) ≡ all_words ws
status_clean status.InForce ws = refl
status_clean (status.Recalled v) ws = rw (word_number v) refl
status_clean status.Surrendered ws = refl
status_clean status.Expired ws = refl

cause_clean : (c : Cause) (ws : Words) → all_words (cause_words c ws) ≡ all_words ws
cause_clean (cause.NowFails l) ws = limit_clean l ws
cause_clean (cause.NowMeets s) ws = rw (word_index s) refl

reply_clean : (r : Reply) (ws : Words) → FitsReply r → all_words (reply_words r ws) ≡ all_words ws
reply_clean (reply.SnapshotAt v) ws h = rw (word_number v) refl
reply_clean (reply.Issued n v routes) ws h = rw (word_number n, word_number v, word_routes routes) refl
reply_clean (reply.Refused v l) ws h = rw (word_number v) (limit_clean l ws)
reply_clean (reply.Outdated v c) ws h = rw (word_number v) (cause_clean c ws)
reply_clean reply.NotNeeded ws h = refl
reply_clean reply.NoRoad ws h = refl
reply_clean (reply.Late d) ws h = rw (word_day d h) refl
reply_clean (reply.Posted v xs) ws h = rw (word_number v, word_numbers xs) refl
reply_clean reply.OutOfRange ws h = refl
reply_clean (reply.DayIs d) ws h = rw (word_day d h) refl
reply_clean (reply.DayBack d) ws h = rw (word_day d h) refl
reply_clean reply.Surrendered ws h = refl
reply_clean reply.NotYours ws h = refl
reply_clean reply.Unknown ws h = refl
reply_clean (reply.NotInForce s) ws h = status_clean s ws
reply_clean (reply.Shown n c t f l v s now) ws (hn, hc, ht, hf, hl, hv, hs, h) =
    rw (word_number n, word_index c, word_index t) (days_clean f l (standing_words v s now ws) hf hl ∙ rw (word_number v, word_number s) (status_clean now ws))
reply_clean (reply.Full n) ws h = absurd h
reply_clean reply.NoMemory ws h = refl

pub line_words : (e : Entry) → FitsEntry e → all_words (entry_words e) ≡ true
line_words e (h, c, r) = rw (word_index e.caller, call_clean e.call (codes "=" ∷ reply_words e.reply []) c, reply_clean e.reply [] r) refl

-- the words of a line are its parts
line_parts : (e : Entry) → FitsEntry e → parts 32 (line_of e) ≡ entry_words e
unfolding spaced
line_parts e h = left_spaced (entry_words e) (line_words e h)

-- the line of an entry is read as that entry
pub entry_again : (e : Entry) → FitsEntry e → entry_of (line_of e) ≡ Some e
unfolding entry_of last_reply
entry_again e (h, c, r) = rw (line_parts e (h, c, r), place_again e.caller h, call_again e.call (codes "=" ∷ reply_words e.reply []) c, reply_again e.reply [] r) refl
