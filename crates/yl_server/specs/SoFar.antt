-- Bridge: a run as far as it has come.
use Rattle.std.specs.Prelude.{◌≡◌, ℕ, List, Option, length}
use Rattle.std.specs.Io.KnownBytes.{Appends}
use Rattle.yl_config.specs.declared.config.Config.{Config}
use Rattle.yl_workspace.specs.Computed.{report}
use Rattle.yl_server.specs.Events.{Event}
use Rattle.yl_server.specs.Machine.{ServerValue, started, after, sent}
use Rattle.yl_server.specs.Serving.{WereTaken, AreEvents}
use Rattle.yl_server.specs.Written.{written}

-- so many messages were read, and all that the machine sends is written
pub record SoFar (count : ℕ) (c : Config) (given place before now : Option (List ℕ)) (s : ServerValue) : Type 0 where
  pub bodies : List (List ℕ)
  pub events : List Event
  pub counted : length events ≡ count
  pub read : WereTaken given place bodies
  pub are : AreEvents bodies events (started c)
  pub server : s ≡ after events (started c)
  pub appends : Appends before now (written report (sent events (started c)))
