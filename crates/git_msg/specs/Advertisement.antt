-- The content of the lines of a capability advertisement, all of them together.
use Rattle.std.specs.Prelude.{ℕ, ◌==◌, Bool, true, false, not, ◌&&◌, ◌||◌, List, [], codes}
use Rattle.std.specs.List.{list_any, before_first, after_first}
use Rattle.std.specs.Str.{bytes_eq}
use Rattle.git_names.specs.declared.object_format.Format.{Format}
use Rattle.git_names.specs.declared.object_format.Format.TheVariants.{Sha1, Sha256}
use Rattle.git_pkt.specs.Packets.{Pkt, payload, text_of}
use Rattle.git_msg.specs.Agents.{own_agent}
use Rattle.git_msg.specs.Texts.{spaced_words}
use Rattle.git_msg.specs.declared.arguments.Command.{Command}
use Rattle.git_msg.specs.declared.arguments.Command.TheVariants.{LsRefs, Fetch, ObjectInfo}
use Rattle.git_msg.specs.declared.offers.Caps.{Caps}
use Rattle.git_msg.specs.declared.offers.Offer.{Offer}

-- the text of a packet, if it has one
abbrev pub text_in : Pkt → List ℕ
text_in (payload bytes) = text_of bytes
text_in _ = []

-- the bytes of a line before its first `=`, or all of them
abbrev pub key_of : List ℕ → List ℕ
key_of line = before_first (λ c. c == 61) line

-- the bytes of a line after its first `=`, or nothing
abbrev pub value_of : List ℕ → List ℕ
value_of line = after_first (λ c. c == 61) line

-- the key of a packet's line, and its value
abbrev pub key_in : Pkt → List ℕ
key_in p = key_of (text_in p)

abbrev pub value_in : Pkt → List ℕ
value_in p = value_of (text_in p)

-- A test of a capability line takes its key, its value and the words of its value.

-- the line has this key
abbrev pub has_key : List ℕ → List ℕ → List ℕ → List (List ℕ) → Bool
has_key wanted key value words = bytes_eq key wanted

-- the line has this key and this value
abbrev pub has_value : List ℕ → List ℕ → List ℕ → List ℕ → List (List ℕ) → Bool
has_value of wanted key value words = bytes_eq key of && bytes_eq value wanted

-- the line has this key, and this word in its value
abbrev pub has_word : List ℕ → List ℕ → List ℕ → List ℕ → List (List ℕ) → Bool
has_word of wanted key value words = bytes_eq key of && list_any (λ w. bytes_eq w wanted) words

-- what is noted for each flag, depending on the flag and on whether some line passes its test. This is the table of all
-- keys, and of the features of each command
abbrev pub noted_by : ((List ℕ → List ℕ → List (List ℕ) → Bool) → Bool) → ((Caps → Bool) → Bool → Bool) → Caps
noted_by some_line noted = record {
  agent = noted (λ caps. caps.agent) (some_line (has_key (codes "agent")));
  ls_refs = noted (λ caps. caps.ls_refs) (some_line (has_key (codes "ls-refs")));
  unborn = noted (λ caps. caps.unborn) (some_line (has_word (codes "ls-refs") (codes "unborn")));
  fetch = noted (λ caps. caps.fetch) (some_line (has_key (codes "fetch")));
  shallow = noted (λ caps. caps.shallow) (some_line (has_word (codes "fetch") (codes "shallow")));
  ref_in_want = noted (λ caps. caps.ref_in_want) (some_line (has_word (codes "fetch") (codes "ref-in-want")));
  wait_for_done = noted (λ caps. caps.wait_for_done) (some_line (has_word (codes "fetch") (codes "wait-for-done")));
  filter = noted (λ caps. caps.filter) (some_line (has_word (codes "fetch") (codes "filter")));
  server_option = noted (λ caps. caps.server_option) (some_line (has_key (codes "server-option")));
  object_info = noted (λ caps. caps.object_info) (some_line (has_key (codes "object-info")));
  object_format = noted (λ caps. caps.object_format) (some_line (has_key (codes "object-format")));
  sha1 = noted (λ caps. caps.sha1) (some_line (has_value (codes "object-format") (codes "sha1")));
  sha256 = noted (λ caps. caps.sha256) (some_line (has_value (codes "object-format") (codes "sha256")));
}

-- what an advertisement of these packets contains: each thing that some line of it names
abbrev pub noted_of : List Pkt → Caps
noted_of packets = noted_by (λ passes. list_any (λ p. passes (key_in p) (value_in p) (spaced_words (value_in p))) packets) (λ flag named. named)

-- what is noted after one more line, with this key, this value and these words in the value
abbrev pub noted_after : Caps → List ℕ → List ℕ → List (List ℕ) → Caps
noted_after caps key value words = noted_by (λ passes. passes key value words) (λ flag named. named || flag caps)

-- what is noted after one more line, with this key and value
abbrev pub noted_with : Caps → List ℕ → List ℕ → Caps
noted_with caps key value = noted_after caps key value (spaced_words value)

-- object names of this format are spoken: a line names the format, or no line names any and it is SHA-1
abbrev pub is_spoken : Caps → Format → Bool
is_spoken caps Sha1 = caps.sha1 || not caps.object_format
is_spoken caps Sha256 = caps.sha256

-- requests of this command are accepted
abbrev pub offers_command : Caps → Command → Bool
offers_command caps LsRefs = caps.ls_refs
offers_command caps Fetch = caps.fetch
offers_command caps ObjectInfo = caps.object_info

-- requests of this command are in the offer
abbrev pub takes_command : Offer → Command → Bool
takes_command offer ObjectInfo = offer.object_info
takes_command offer command = true

-- an offer of each thing whose flag in the noted capabilities passes, by this library's own agent
abbrev pub offer_where : ((Caps → Bool) → Bool) → Format → Offer
offer_where passes format = record {
  format = format;
  unborn = passes (λ caps. caps.unborn);
  shallow = passes (λ caps. caps.shallow);
  ref_in_want = passes (λ caps. caps.ref_in_want);
  wait_for_done = passes (λ caps. caps.wait_for_done);
  filter = passes (λ caps. caps.filter);
  object_info = passes (λ caps. caps.object_info);
  server_option = passes (λ caps. caps.server_option);
  agent = own_agent;
}

-- the offer of a server that advertises everything
abbrev pub everything : Format → Offer
everything = offer_where (λ flag. true)

-- the offer of a server that advertises no feature
abbrev pub nothing : Format → Offer
nothing = offer_where (λ flag. false)

-- the offer to a client that speaks this format
abbrev pub noted_offer : Caps → Format → Offer
noted_offer caps = offer_where (λ flag. flag caps)
