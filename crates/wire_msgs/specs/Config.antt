-- How a run may begin.
use Rattle.std.specs.Prelude.{◌≡◌, ℕ, ◌<◌, ◌≤◌, List, length, Bool, true, false, ◌&&◌, nat_lt, nat_le}
use Rattle.std.specs.List.{AllByRecursion, list_all}
use Rattle.std.specs.Char.{is_ascii_graphic}
use Rattle.fission_ids.specs.ProcSet.{has}
use Rattle.wire_msgs.specs.declared.config.Config.{Config}
use Rattle.wire_msgs.specs.declared.config.StartTab.{StartTab}

-- whether a text is a remote type: 1 to 128 bytes from `!` to `~`
abbrev pub is_remote_type : List ℕ → Bool
is_remote_type text =
    nat_lt 0 (length text)
    && nat_le (length text) 128
    && list_all is_ascii_graphic text

abbrev pub IsRemoteType : List ℕ → Type 0
IsRemoteType text = is_remote_type text ≡ true

-- the owner of a tab is one of n processes, and the others that hold it are some of the rest
pub record TabFits (n : ℕ) (tab : StartTab) : Type 0 where
  pub owner : tab.owner.0 < n
  pub also : (p : ℕ) → has tab.also p ≡ true → p < n
  pub others : has tab.also tab.owner.0 ≡ false

-- there are 1 to 16 processes, each of a remote type, and at most 64 tabs, which are theirs
pub record ConfigFits (c : Config) : Type 0 where
  pub some : 0 < length c.types
  pub few : length c.types ≤ 16
  pub types : AllByRecursion IsRemoteType c.types
  pub few_tabs : length c.tabs ≤ 64
  pub tabs : AllByRecursion (TabFits (length c.types)) c.tabs
