-- The object format of a client of any format: it is chosen by the lines of the advertisement.
use Rattle.std.specs.Prelude.{◌≡◌, ◌&&◌, Bool, true, false, Option, Some, None, if◌then◌else◌}
use Rattle.git_names.specs.declared.object_format.Format.{Format}
use Rattle.git_names.specs.declared.object_format.Format.TheVariants.{Sha1, Sha256}
use Rattle.git_msg.specs.Advertisement.{is_spoken}
use Rattle.git_msg.specs.declared.offers.Caps.{Caps}
use Rattle.git_client.specs.Parts.{Terms, in_format}
use Rattle.git_client.specs.Machine.Client.{History, Converses, agent_of, format_of, ending_of, is_of_any_format, caps_of, content_last, phase_of}
use Rattle.git_client.specs.Machine.Client.{reader_of, request_of}
use Rattle.git_client.specs.declared.phase.Phase.{Phase}
use Rattle.git_client.specs.declared.phase.Phase.TheVariants.{Receiving, Failed}
use Rattle.git_client.specs.declared.phase.Expected.TheVariants.{Version, Capabilities}
use Rattle.git_client.specs.declared.client.Client.{Client}

-- the object format that these lines of an advertisement ask for: SHA-1 if they name it or name none, and otherwise SHA-256
abbrev pub format_by : Caps → Format
format_by caps = if is_spoken caps Sha1 then Sha1 else Sha256

-- the advertisement is not whole yet
abbrev pub is_advertising : Phase → Bool
is_advertising (Receiving Version) = true
is_advertising (Receiving Capabilities) = true
is_advertising phase = false

-- the advertisement is whole, and there was no error after it
abbrev pub is_advertised : Phase → Bool
is_advertised (Receiving Version) = false
is_advertised (Receiving Capabilities) = false
is_advertised (Failed fault) = false
is_advertised phase = true

module _ {A : Type 0} where
  -- the client still has to choose its object format
  abbrev pub may_choose : Client A → Bool
  may_choose client = is_of_any_format client && is_advertising (phase_of client)

  -- the object format that it then has
  abbrev pub format_next : Client A → Format
  format_next client = if may_choose client then format_by (caps_of client) else format_of client

  -- the object format of the conversation, as soon as the advertisement is whole
  abbrev pub format_known : Client A → Option Format
  format_known client = if is_advertised (phase_of client) then Some (format_of client) else None

  -- the effect of a call of `choose_format`: the history is one of a client that had this format from its beginning, and all else is unchanged
  pub record ChoosesFormat (old new : Client A) : Type 0 where
    pub format : format_of new ≡ format_next old
    pub carries : (t : Terms) (h : History) → Converses t h old → Converses (in_format (format_of new) t) h new
    pub stays : may_choose old ≡ false → new ≡ old
    pub any : is_of_any_format new ≡ is_of_any_format old
    pub ending : ending_of new ≡ ending_of old
    pub agent : agent_of new ≡ agent_of old
    pub reader : reader_of new ≡ reader_of old
    pub phase : phase_of new ≡ phase_of old
    pub caps : caps_of new ≡ caps_of old
    pub request : request_of new ≡ request_of old
    pub content : content_last new ≡ content_last old
