-- What was followed up to what was seen can be followed to what goes on from it.
use Rattle.std.proofs.Common.{◌≡◌, ◌++◌, List, Option, Some, None, IfSome, refl, ap, sym, subst, ◌∙◌}
use Rattle.snapshot_store.specs.Stores.{IsLater, Stored}
use Rattle.snapshot_store.proofs.Later.{later_on, later_same}
use Rattle.trip_analysis.specs.Bases.{BaseLists}
use Rattle.trip_analysis.specs.Followers.{Followed, GoesOn, followed}
use Rattle.office_core.specs.declared.calls.Looked.TheVariants as looked
use Rattle.office_words.specs.declared.entry.Call.{Call}
use Rattle.office_words.specs.declared.entry.Entry.{Entry}
use Rattle.office_words.specs.declared.entry.Reply.{Reply}
use Rattle.office_core.specs.Calls.{Answered, Calling, Looks, Who, stored_seen}
use Rattle.office_core.specs.Machine.{machine_of, stored_of}
use Rattle.office_core.proofs.Later.{postings_on}
use Rattle.analyst_pool.specs.Following.{FollowsAt, MayFollow}
use Rattle.analyst_pool.specs.Leaves.{Grew}
use Rattle.analyst_pool.proofs.Growing.{called_by}

goes_on_later : (last : Option Stored) (now next : Stored) → GoesOn last now → IsLater now next → GoesOn last next
goes_on_later None now next h k = tt
goes_on_later (Some s) now next h k = later_on s now next h k

module _ {P : Type 0} where
  base_same : (v w : Calling P) → w.who ≡ v.who → w.who.base ≡ v.who.base
  base_same v w same = ap (λ (k : Who P). k.base) same

  -- what is posted goes on
  later_seen : (v w : Calling P) (es : List Entry) → Grew v es w → IsLater (stored_seen v) (stored_seen w)
  later_seen v w es g =
      let on = postings_on v.who.base v.who.opening v.seen g.sees.more in
      let same : stored_seen w ≡ stored_of v.who.base (machine_of v.who.base v.who.opening (v.seen ++ g.sees.more)) =
      ap (λ (k : Who P). stored_of k.base (machine_of k.base k.opening w.seen)) g.who ∙ ap (λ (l : List Entry). stored_of v.who.base (machine_of v.who.base v.who.opening l)) g.sees.seen in
      subst (IsLater (stored_seen v)) (sym same) (record { roads = refl; more = on.0; postings = on.1 })

  pub follows_grown : (f : Option Followed) (v w : Calling P) (es : List Entry) → Grew v es w → MayFollow f v → MayFollow f w
  follows_grown None v w es g h = tt
  follows_grown (Some f) v w es g h = record {
    base_is = h.base_is ∙ sym (base_same v w g.who);
    later = goes_on_later f.last (stored_seen v) (stored_seen w) h.later (later_seen v w es g);
  }

  pub follows_answered : (f : Option Followed) (v w : Calling P) (c : Call) (r : Reply) → Answered v c r w → MayFollow f v → MayFollow f w
  follows_answered f v w c r answered h = let one = called_by v w c r answered in follows_grown f v w one.entries one.grew h

  -- a snapshot that was handed out is of what is then seen
  pub follows_snapshot : (f : Option Followed) (v w : Calling P) (s : Stored) (base : BaseLists) → base ≡ v.who.base → Looks v (looked.At s) w → MayFollow f v → IfSome f (FollowsAt base s)
  follows_snapshot f v w s base is looks h = subst (λ (t : Stored). IfSome f (FollowsAt base t)) (sym looks.1)
      (subst (λ (b : BaseLists). IfSome f (FollowsAt b (stored_seen w))) (base_same v w looks.0.who ∙ sym is) (follows_answered f v w _ _ looks.0 h))

  pub follows_seen : (f : Option Followed) (v w : Calling P) (s : Stored) (base : BaseLists) → base ≡ v.who.base → Looks v (looked.At s) w → IfSome f (FollowsAt base s) → MayFollow f w
  follows_seen f v w s base is looks h = subst (λ (b : BaseLists). IfSome f (FollowsAt b (stored_seen w))) (is ∙ sym (base_same v w looks.0.who))
      (subst (λ (t : Stored). IfSome f (FollowsAt base t)) looks.1 h)
