-- A worked run: a process makes a frame in its tab, which the parent has just handed over to another process.
-- The frame is late, and is removed again; what the other process makes stays.
use Rattle.std.specs.Prelude.{◌≡◌, Bool, true, false, Option, None, Some, List, [], ◌∷◌}
use Rattle.traces.specs.Event.{Bundle, Event}
use Rattle.traces.specs.Event.Event.{Writes, Sends, Takes, Reverts}
use Rattle.traces.specs.Words.{Stage}
use Rattle.traces.specs.Words.Stage.{Coming, Held}
use Rattle.trees.specs.Look.{Effect, Handing, Look, Begin}
use Rattle.trees.specs.Look.Effect.{Stays, Comes, Goes}
use Rattle.trees.specs.Look.Handing.{Same, Given, Taken}
use Rattle.trees.specs.Children.{held_below, live_below, owns, owned}
use Rattle.trees.specs.Rules.{Keeps}

pub data Context : Type 0 where
  Tab : Context
  Frame : Context  -- of the process
  Other : Context  -- of another

pub data Change : Type 0 where
  MakesFrame : Change
  RemovesFrame : Change
  HandsTabOver : Change
  MakesOther : Change

abbrev pub does : Context → Change → Effect
does Frame MakesFrame = Comes
does Frame RemovesFrame = Goes
does Other MakesOther = Comes
does _ _ = Stays

abbrev pub above : Context → Option Context
above Tab = None
above _ = Some Tab

abbrev pub is_own : Context → Bool
is_own Frame = true
is_own _ = false

abbrev pub makes : Context → Change → List Context
makes Tab MakesFrame = Frame ∷ []
makes Tab MakesOther = Other ∷ []
makes _ _ = []

abbrev pub brings : Context → Change → List Context
brings Tab MakesOther = Other ∷ []
brings _ _ = []

abbrev pub hands : Context → Change → Handing
hands Frame MakesFrame = Given
hands Tab HandsTabOver = Taken
hands Other MakesOther = Taken
hands _ _ = Same

abbrev pub creates : Context → Change → Bool
creates Frame MakesFrame = true
creates Other MakesOther = true
creates _ _ = false

abbrev pub needs : Context → Change → Bool
needs Tab MakesFrame = true
needs _ _ = false

abbrev pub look : Look Context Change Change
look = record {
  does = does;
  tells = does;
  above = above;
  is_own = is_own;
  makes = makes;
  brings = brings;
  hands = hands;
  handed = hands;
  creates = creates;
  needs = needs;
  drops = λ x w. false;
  registers = λ x c. false;
}

abbrev pub first_stage : Context → Stage
first_stage Tab = Held
first_stage _ = Coming

abbrev pub first_owned : Context → Bool
first_owned Tab = true
first_owned _ = false

abbrev pub begin : Begin Context
begin = record { is_told = λ x. true; stage = first_stage; life = first_stage; owned = first_owned }

abbrev pub bundle : Change → Bundle Change
bundle HandsTabOver = record { entry = 1; epoch = 0; content = HandsTabOver }
bundle RemovesFrame = record { entry = 2; epoch = 1; content = RemovesFrame }
bundle c = record { entry = 3; epoch = 1; content = c }

abbrev pub run : List (Event Change Change)
run =
    Takes (bundle MakesOther) ∷ Takes (bundle RemovesFrame) ∷ Takes (bundle HandsTabOver) ∷
    Sends 3 MakesOther MakesOther ∷ Reverts 2 MakesFrame RemovesFrame ∷
    Sends 1 HandsTabOver HandsTabOver ∷ Writes MakesFrame ∷ []

pub record WorkedRun : Type 0 where
  pub keeps : Keeps look begin run
  pub held : held_below look begin Tab run ≡ Other ∷ []
  pub live : live_below look begin Tab run ≡ Other ∷ []
  pub owns : owns look begin Tab run ≡ false
  pub owned : owned look begin Tab run ≡ false
