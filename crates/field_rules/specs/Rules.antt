-- Who may write a field: the rule of each field, and what each rule denies and allows.
use Rattle.std.specs.Prelude.{◌≡◌, ℕ, ◌==◌, ◌&&◌, ◌||◌, not, Bool, true, false, if◌then◌else◌}
use Rattle.std.specs.Prelude.{Option, is_none, is_some}
use Rattle.std.specs.Option.{option_map, option_map_or}
use Rattle.fission_ids.specs.declared.context.ContextId.{ContextId}
use Rattle.fission_ids.specs.declared.process.ProcId.{ProcId}
use Rattle.fission_ids.specs.Ids.{same_context}
use Rattle.field_table.specs.declared.field.Field.{Field}
use Rattle.field_table.specs.declared.field.Field.TheVariants.{Name, Closed, ExplicitActive}
use Rattle.field_table.specs.declared.field.Field.TheVariants.{CurrentInnerWindowId, OpenerId, FullZoom}
use Rattle.field_table.specs.declared.field.Field.TheVariants.{TextZoom, Muted, MessageManagerGroup}
use Rattle.field_table.specs.declared.field.Field.TheVariants.{UserAgentOverride, AllowContentRetargeting}
use Rattle.field_table.specs.declared.field.Field.TheVariants.{SandboxFlags, IsInBFCache, Loading}
use Rattle.field_table.specs.declared.field.Field.TheVariants.{DefaultLoadFlags, DisplayMode}
use Rattle.field_table.specs.declared.value.Value.{Value}
use Rattle.field_table.specs.declared.value.Value.TheVariants as values
use Rattle.field_table.specs.declared.verdict.Verdict.{Verdict}
use Rattle.field_table.specs.declared.verdict.Verdict.TheVariants.{Allow, Deny, Revert}
use Rattle.field_rules.specs.declared.rule.Rule.{Rule}
use Rattle.field_rules.specs.declared.rule.Rule.TheVariants.{Any, ParentOnly, TopOnly, OwnerElseRevert}
use Rattle.field_rules.specs.declared.rule.Rule.TheVariants.{Window, Custom}
use Rattle.field_rules.specs.declared.rule.Zoom.{Zoom}
use Rattle.field_rules.specs.declared.rule.Zoom.TheVariants.{Full, Text}
use Rattle.field_rules.specs.declared.ask.Ask.{Ask}
use Rattle.field_rules.specs.declared.ask.WindowFact.{WindowFact}
use Rattle.field_rules.specs.Bounds.{Range, Bounds, is_within, zooms}

-- what is asked of a write of one field, as `Ask` has it, with the value itself
pub record Question : Type 0 where
  pub field : Field
  pub value : Value
  pub context : ContextId
  pub top : Bool
  pub window : Option WindowFact
  pub from : Option ProcId
  pub owner_is_sender : Bool

-- the question that an ask puts
abbrev pub question_of : Ask → Question
question_of a = record {
  field = a.field;
  value = a.value.now;
  context = a.context;
  top = a.top;
  window = a.window;
  from = a.from;
  owner_is_sender = a.owner_is_sender;
}

-- the number that is written, or 0 where the value is none
abbrev pub number_in : Value → ℕ
number_in (values.Flag on) = 0
number_in (values.Number n) = n
number_in (values.Words text) = 0

-- whether the parent asks
abbrev pub is_from_parent : Question → Bool
is_from_parent q = is_none q.from

-- whether a process asks
abbrev pub is_from_process : Question → Bool
is_from_process q = is_some q.from

-- whether the context isn't top-level
abbrev pub is_on_frame : Question → Bool
is_on_frame q = not q.top

-- whether the value names a window, which 0 doesn't
abbrev pub has_window : Question → Bool
has_window q = not (number_in q.value == 0)

-- the context that the window was made for, where the window is known
abbrev pub window_context : Question → Option ContextId
window_context q = option_map (λ w. w.made_for) q.window

-- whether the window is known and was made for this context
abbrev pub is_made_here : Question → Bool
is_made_here q = option_map_or (same_context q.context) (window_context q) false

-- whether the window is known and open
abbrev pub has_open_window : Question → Bool
has_open_window q = option_map_or (λ w. w.is_open) q.window false

-- whether the value is a zoom of which a rule function is asked
abbrev pub is_zoom : Question → Bool
is_zoom q = is_within zooms (number_in q.value)

-- what is allowed of a zoom
abbrev pub range_of : Zoom → Bounds → Range
range_of Full b = b.full
range_of Text b = b.text

-- the zoom whose rule function a row has
abbrev pub zoom_of : ℕ → Zoom
zoom_of row = if row == 0 then Full else Text

-- the bounds with another range of one zoom
abbrev pub bounds_with : Zoom → Range → Bounds → Bounds
bounds_with Full r b = record { full = r; text = b.text }
bounds_with Text r b = record { full = b.full; text = r }

-- the rule of each field
abbrev pub rule : Field → Rule
rule Name = OwnerElseRevert
rule Closed = Any
rule ExplicitActive = ParentOnly
rule CurrentInnerWindowId = Window
rule OpenerId = ParentOnly
rule FullZoom = Custom Full
rule TextZoom = Custom Text
rule Muted = ParentOnly
rule MessageManagerGroup = ParentOnly
rule UserAgentOverride = TopOnly
rule AllowContentRetargeting = OwnerElseRevert
rule SandboxFlags = OwnerElseRevert
rule IsInBFCache = ParentOnly
rule Loading = OwnerElseRevert
rule DefaultLoadFlags = OwnerElseRevert
rule DisplayMode = TopOnly

-- what a rule denies, by fixed facts alone, and what it allows of what it doesn't deny
pub record Row : Type 0 where
  pub denies : Question → Bool
  pub allows : Bounds → Question → Bool

-- the table of rules
unfoldable pub row : Rule → Row
row Any = record { denies = λ q. false; allows = λ b q. true }
row ParentOnly = record { denies = λ q. is_from_process q; allows = λ b q. true }
row TopOnly = record { denies = λ q. is_on_frame q; allows = λ b q. true }
row OwnerElseRevert = record { denies = λ q. false; allows = λ b q. is_from_parent q || q.owner_is_sender }
row Window = record {
  denies = λ q. has_window q && (is_from_parent q || not (is_made_here q));
  allows = λ b q. not (has_window q) || (has_open_window q && q.owner_is_sender);
}
row (Custom z) = record {
  denies = λ q. is_on_frame q || not (is_zoom q);
  allows = λ b q. is_from_parent q || q.owner_is_sender || is_within (range_of z b) (number_in q.value);
}

-- whether the fixed facts deny the write
abbrev pub is_denied : Question → Bool
is_denied q = (row (rule q.field)).denies q

-- what the table makes of the write
abbrev pub verdict : Bounds → Question → Verdict
verdict b q = if is_denied q then Deny else if (row (rule q.field)).allows b q then Allow else Revert

-- two questions differ at most in the owner, and in whether the window is open
pub record SameFixedFacts (q r : Question) : Type 0 where
  pub field : q.field ≡ r.field
  pub value : q.value ≡ r.value
  pub context : q.context ≡ r.context
  pub top : q.top ≡ r.top
  pub window : window_context q ≡ window_context r
  pub from : q.from ≡ r.from
