-- How contexts are found in the bundles of a process and in those of the parent: what each bundle makes,
-- brings, drops and hands over.
use Rattle.std.specs.Prelude.{ℕ, ◌+◌, ◌==◌, Bool, true, false, not, ◌&&◌, ◌||◌, if◌then◌else◌}
use Rattle.std.specs.Prelude.{List, [], ◌∷◌, ◌++◌}
use Rattle.std.specs.List.{list_any}
use Rattle.fission_ids.specs.declared.context.ContextId.{ContextId}
use Rattle.fission_ids.specs.declared.group.GroupId.{GroupId}
use Rattle.fission_ids.specs.Ids.{same_context}
use Rattle.wire_msgs.specs.declared.bundle.DownBundle.{DownBundle}
use Rattle.wire_msgs.specs.declared.config.Config.{Config}
use Rattle.wire_msgs.specs.declared.part.DownPart.{DownPart}
use Rattle.wire_msgs.specs.declared.part.DownPart.TheVariants as downs
use Rattle.wire_msgs.specs.declared.part.UpPart.{UpPart}
use Rattle.wire_msgs.specs.declared.part.UpPart.TheVariants as ups
use Rattle.protocol.specs.Questions.{is_subscribed, option_any}
use Rattle.protocol.specs.Sayings.{Saying}
use Rattle.protocol.specs.Sayings.Saying.{Opened, Made, Removed}
use Rattle.protocol.specs.ParentActs.{same_group}
use Rattle.protocol.specs.Start.{facts_at_start, is_held_at_start, is_live, seen_at_start}
use Rattle.traces.specs.Words.{Stage}
use Rattle.traces.specs.Words.Stage.{Held, Coming}
use Rattle.trees.specs.Look.{Effect, Handing, Look, Begin}
use Rattle.trees.specs.Look.Effect.{Stays, Comes, Goes}
use Rattle.trees.specs.Look.Handing.{Same, Given}
use Rattle.trees.specs.Rules.{told_owner}
use Rattle.model.specs.Lines.{Making, line, above_in, group_in, is_among}
use Rattle.model.specs.Moments.{Written}
use Rattle.model.specs.Moments.Written.{Own, Raw, Said}
use Rattle.model.specs.View.{singles}

-- ---- what comes and goes

abbrev pub comes_if : Bool → Effect
comes_if true = Comes
comes_if false = Stays

abbrev pub goes_if : Bool → Effect
goes_if true = Goes
goes_if false = Stays

-- two effects together: what goes isn't brought back
abbrev pub both : Effect → Effect → Effect
both Stays e = e
both Goes e = Goes
both Comes Goes = Goes
both Comes e = Comes

-- what the parts of a process's bundle do to a context with this line
abbrev pub parts_do : ContextId → List ContextId → List UpPart → Effect
parts_do x above [] = Stays
parts_do x above (ups.Create y a ∷ parts) = both (comes_if (same_context x y)) (parts_do x above parts)
parts_do x above (ups.Drop y ∷ parts) = both (goes_if (is_among y above)) (parts_do x above parts)
parts_do x above (_ ∷ parts) = parts_do x above parts

-- what the parent said of it in an entry
abbrev pub says_do : ContextId → List ContextId → List Saying → Effect
says_do x above [] = Stays
says_do x above (Opened y g is_new p ∷ older) =
    both (comes_if (same_context x y)) (says_do x above older)
says_do x above (Made p y a ∷ older) = both (comes_if (same_context x y)) (says_do x above older)
says_do x above (Removed w but ∷ older) = both (goes_if (is_among w above)) (says_do x above older)
says_do x above (_ ∷ older) = says_do x above older

abbrev pub written_does : ContextId → List ContextId → Written → Effect
written_does x above (Own b) = parts_do x above b.parts
written_does x above (Raw b) = parts_do x above b.parts
written_does x above (Said says) = says_do x above says

-- what the parts of the parent's bundle do to it in the process
abbrev pub parts_tell : ContextId → List ContextId → List DownPart → Effect
parts_tell x above [] = Stays
parts_tell x above (downs.Create k ∷ parts) =
    both (comes_if (same_context x k.context)) (parts_tell x above parts)
parts_tell x above (downs.Discard w ∷ parts) = both (goes_if (is_among w above)) (parts_tell x above parts)
parts_tell x above (_ ∷ parts) = parts_tell x above parts

-- ---- children

-- those that the parts of a process's bundle make below y
abbrev pub parts_make : ContextId → List UpPart → List ContextId
parts_make y [] = []
parts_make y (ups.Create x a ∷ parts) =
    if same_context y a then x ∷ parts_make y parts else parts_make y parts
parts_make y (_ ∷ parts) = parts_make y parts

abbrev pub says_make : ContextId → List Saying → List ContextId
says_make y [] = []
says_make y (Made p x a ∷ older) = says_make y older ++ (if same_context y a then x ∷ [] else [])
says_make y (_ ∷ older) = says_make y older

abbrev pub written_makes : ContextId → Written → List ContextId
written_makes y (Own b) = parts_make y b.parts
written_makes y (Raw b) = parts_make y b.parts
written_makes y (Said says) = says_make y says

-- whether a part subscribes the process to a group
abbrev pub registers_group : GroupId → DownPart → Bool
registers_group g (downs.Register h ks) = same_group g h
registers_group g part = false

-- those that the parent's parts bring below it
abbrev pub parts_bring : ContextId → List DownPart → List ContextId
parts_bring y [] = []
parts_bring y (downs.Create k ∷ parts) =
    if option_any (same_context y) k.parent then k.context ∷ parts_bring y parts else parts_bring y parts
parts_bring y (_ ∷ parts) = parts_bring y parts

-- ---- owners

-- the later of two
abbrev pub later_hand : Handing → Handing → Handing
later_hand Same before = before
later_hand later before = later

abbrev pub hand_if : Bool → Handing → Handing
hand_if true hand = hand
hand_if false hand = Same

abbrev pub parts_hand : ContextId → List UpPart → Handing
parts_hand y [] = Same
parts_hand y (ups.Create x a ∷ parts) = later_hand (parts_hand y parts) (hand_if (same_context y x) Given)
parts_hand y (_ ∷ parts) = parts_hand y parts

-- what is said to process p of who owns y
abbrev pub says_hand : ℕ → ContextId → List Saying → Handing
says_hand p y [] = Same
says_hand p y (Opened x g is_new q ∷ older) =
    later_hand (hand_if (same_context y x) (told_owner (q == p))) (says_hand p y older)
says_hand p y (Made q x a ∷ older) =
    later_hand (hand_if (same_context y x) (told_owner (q == p))) (says_hand p y older)
says_hand p y (_ ∷ older) = says_hand p y older

abbrev pub written_hands : ℕ → ContextId → Written → Handing
written_hands p y (Own b) = parts_hand y b.parts
written_hands p y (Raw b) = parts_hand y b.parts
written_hands p y (Said says) = says_hand p y says

abbrev pub parts_handed : ContextId → List DownPart → Handing
parts_handed y [] = Same
parts_handed y (downs.Create k ∷ parts) =
    later_hand (parts_handed y parts) (hand_if (same_context y k.context) (told_owner k.owned))
parts_handed y (_ ∷ parts) = parts_handed y parts

-- of what comes and goes in one bundle nobody is told as the owner
abbrev pub handed_unless : Effect → Handing → Handing
handed_unless Goes hand = Same
handed_unless e hand = hand

-- ---- what is named

abbrev pub parts_create : ContextId → List UpPart → Bool
parts_create x [] = false
parts_create x (ups.Create y a ∷ parts) = same_context x y || parts_create x parts
parts_create x (_ ∷ parts) = parts_create x parts

-- those in time: what another made too late is told to nobody
abbrev pub says_create : ContextId → List Saying → Bool
says_create x [] = false
says_create x (Opened y g is_new p ∷ older) = same_context x y || says_create x older
says_create x (Made p y a ∷ older) = same_context x y || says_create x older
says_create x (_ ∷ older) = says_create x older

abbrev pub written_creates : ContextId → Written → Bool
written_creates x (Own b) = parts_create x b.parts
written_creates x (Raw b) = parts_create x b.parts
written_creates x (Said says) = says_create x says

-- as one that is known, and not made by an earlier part
abbrev pub parts_need : ContextId → List UpPart → Bool
parts_need x [] = false
parts_need x (ups.Create y a ∷ parts) = same_context x a || (not (same_context x y) && parts_need x parts)
parts_need x (ups.Drop y ∷ parts) = same_context x y || parts_need x parts
parts_need x (_ ∷ parts) = parts_need x parts

abbrev pub parts_drop : ContextId → List UpPart → Bool
parts_drop x [] = false
parts_drop x (ups.Drop y ∷ parts) = same_context x y || parts_drop x parts
parts_drop x (_ ∷ parts) = parts_drop x parts

-- of what a process sends
abbrev pub in_parts : (List UpPart → Bool) → Written → Bool
in_parts names (Own b) = names b.parts
in_parts names (Raw b) = names b.parts
in_parts names (Said says) = false

-- ---- the look of process p

abbrev pub tree_look : Config → ℕ → List Making → Look ContextId Written DownBundle
tree_look c p ms = record {
  does = λ x w. written_does x (line x ms) w;
  tells = λ x d. parts_tell x (line x ms) (singles d.parts);
  above = above_in ms;
  is_own = λ x. x.creator == p + 1;
  makes = written_makes;
  brings = λ y d. parts_bring y (singles d.parts);
  hands = written_hands p;
  handed = λ y d.
      handed_unless (parts_tell y (line y ms) (singles d.parts)) (parts_handed y (singles d.parts));
  creates = written_creates;
  needs = λ x w. in_parts (parts_need x) w;
  drops = λ x w. in_parts (parts_drop x) w;
  registers = λ x d. option_any (λ g. list_any (registers_group g) d.parts) (group_in c.tabs ms x);
}

-- the stage of a context at the start, in the process and in the parent
abbrev pub held_if : Bool → Stage
held_if is_there = if is_there then Held else Coming

abbrev pub tree_begin : Config → ℕ → List Making → Begin ContextId
tree_begin c p ms = record {
  is_told = λ x. option_any (is_subscribed (facts_at_start c.tabs) p) (group_in c.tabs ms x);
  stage = λ x. held_if (is_held_at_start c.tabs p x);
  life = λ x. held_if (is_live c.tabs x);
  owned = (seen_at_start c.tabs p).owns;
}
