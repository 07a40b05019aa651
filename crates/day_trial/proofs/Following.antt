-- What was followed up to an office can be followed to what it has become.
use Rattle.std.proofs.Common.{◌≡◌, [], List, Option, None, IfSome, refl, ap, sym, subst, ◌∙◌}
use Rattle.trip_analysis.specs.Bases.{BaseLists}
use Rattle.trip_analysis.specs.Followers.{Followed}
use Rattle.office_words.specs.declared.entry.Entry.{Entry}
use Rattle.office_core.specs.Calls.{Calling}
use Rattle.office_core.specs.Offices.{Opened}
use Rattle.analyst_pool.proofs.Followings.{follows_grown}
use Rattle.day_trial.specs.Serving.{FollowsOffice, grown_by}

-- the calls of one who is alone at an office, of which these are the caller's own
abbrev alone_at : Opened → List Entry → Calling (Unit {0})
alone_at o own = record {
  who = record { place = None; reference = None; caller = 0; base = o.base; opening = o.opening; most = o.most };
  seen = o.history;
  own = own;
  full = None;
}

-- whoever follows an office can go on to what it has become
follows_on : (f : Option Followed) (o : Opened) (es : List Entry) → IfSome f (FollowsOffice o) → IfSome f (FollowsOffice (grown_by o es))
follows_on f o es h = follows_grown f (alone_at o []) (alone_at (grown_by o es) es) es (record { who = refl; own = refl; sees = record { more = es; seen = refl; alone = λ _. refl } }) h

-- it is about the same base, and is followed as before, where its history has grown
pub base_on : (base : BaseLists) (o next : Opened) (es : List Entry) → o.base ≡ base → next ≡ grown_by o es → next.base ≡ base
base_on base o next es is grown = ap (λ (n : Opened). n.base) grown ∙ is

pub follows_next : (f : Option Followed) (o next : Opened) (es : List Entry) → IfSome f (FollowsOffice o) → next ≡ grown_by o es → IfSome f (FollowsOffice next)
follows_next f o next es h grown = subst (λ (n : Opened). IfSome f (FollowsOffice n)) (sym grown) (follows_on f o es h)
