-- How long the texts are that C is shown of an event.
use Rattle.std.proofs.Common.{arith, ◌≡◌, ℕ, ◌+◌, ◌≤◌, List, [], ◌∷◌, ◌++◌, length, Option, Some, None, refl, map, length-append}
use Rattle.std.specs.Option.{option_copied, option_map_or}
use Rattle.std.proofs.lemmas.List.Sums.{sum_by-cons}
use Rattle.git_names.specs.ObjectFormat.{digits_of}
use Rattle.git_names.specs.ObjectName.{ObjectName}
use Rattle.git_names.proofs.ObjectNames.{hex_of-fits}
use Rattle.git_pkt.specs.Packets.{longest_payload}
use Rattle.git_msg.specs.References.{id_length}
use Rattle.git_client.specs.EventParts.{Parts, parts_of}
use Rattle.git_client.specs.Events.{EventValue, all_parts_length, parts_length, pack, progress}
use Rattle.git_client.specs.Machine.Turns.{values_of}
use Rattle.git_client.specs.declared.events.Event.{Event}
use Rattle.gitwire.specs.EventAnswers.{bytes_shown, digits_shown, shown_at, text_shown}
use Rattle.gitwire.specs.declared.event.GitwireEvent.{GitwireEvent}

digits_fit_in : (id : Option ObjectName) → length (digits_shown id) ≤ option_map_or (λ (o : ObjectName). digits_of o.format) id 0
digits_fit_in None = omega arith
digits_fit_in (Some id) = hex_of-fits id

-- where a reference has no object, no digits are shown of the word in their place
first_fits : (id : Option ObjectName) → length (digits_shown id) ≤ id_length id
first_fits None = omega arith
first_fits (Some id) = hex_of-fits id

text_length : (text : Option (List ℕ)) → length (text_shown text) ≡ option_map_or length text 0
text_length None = refl
text_length (Some text) = refl

pub shown_length : (p : Parts)
    → length (bytes_shown p) ≡ length (digits_shown p.id) + length (text_shown p.name) + length (text_shown p.text) + length (digits_shown p.peeled)
shown_length p =
    let id = digits_shown p.id in
    let name = text_shown p.name in
    let text = text_shown p.text in
    omega (
      arith,
      length-append (id ++ name ++ text) (digits_shown p.peeled),
      length-append (id ++ name) text,
      length-append id name,
    )

-- bytes of a band have a part of one byte each
each_one : (event : ℕ → EventValue) (bytes : List ℕ) → ((byte : ℕ) → parts_length (event byte) ≡ 1) → all_parts_length (map event bytes) ≡ length bytes
each_one event [] one = refl
each_one event (byte ∷ bytes) one =
    let more : all_parts_length (map event (byte ∷ bytes)) ≡ parts_length (event byte) + all_parts_length (map event bytes) =
    sum_by-cons parts_length (event byte) (map event bytes) in
    omega (arith, more, one byte, each_one event bytes one)

-- they are no longer than the parts of the event
pub shown_fits : (event : Event) → length (bytes_shown (parts_of event)) ≤ all_parts_length (values_of event)
shown_fits (Event.Capability c) = omega (arith, shown_length (parts_of (Event.Capability c)), text_length (option_copied c.value))
shown_fits (Event.Reference id name target peeled) = omega (
  arith,
  shown_length (parts_of (Event.Reference id name target peeled)),
  first_fits (option_copied id),
  text_length (option_copied target),
  digits_fit_in (option_copied peeled),
)
shown_fits (Event.Section begun) = omega (arith, shown_length (parts_of (Event.Section begun)))
shown_fits (Event.Ack id) = omega (arith, shown_length (parts_of (Event.Ack id)), hex_of-fits id.now)
shown_fits (Event.Shallow id) = omega (arith, shown_length (parts_of (Event.Shallow id)), hex_of-fits id.now)
shown_fits (Event.Unshallow id) = omega (arith, shown_length (parts_of (Event.Unshallow id)), hex_of-fits id.now)
shown_fits (Event.WantedRef id name) = omega (arith, shown_length (parts_of (Event.WantedRef id name)), hex_of-fits id.now)
shown_fits (Event.Info id size) = omega (arith, shown_length (parts_of (Event.Info id size)), hex_of-fits id.now)
shown_fits (Event.Pack bytes) = omega (arith, shown_length (parts_of (Event.Pack bytes)), each_one pack bytes.now (λ byte. refl))
shown_fits (Event.Progress bytes) = omega (arith, shown_length (parts_of (Event.Progress bytes)), each_one progress bytes.now (λ byte. refl))
shown_fits Event.Offered = omega arith
shown_fits Event.Nak = omega arith
shown_fits Event.Ready = omega arith
shown_fits Event.Ended = omega arith

-- no more bytes are reported to C than a payload has
pub answer_fits : (used at : ℕ) (event : Event) (answer : GitwireEvent) → all_parts_length (values_of event) ≤ longest_payload
    → answer ≡ shown_at event used at
    → answer.id_length + answer.name_length + answer.text_length + answer.peeled_length ≤ longest_payload
answer_fits used at event answer fits announces = rw announces (omega (arith, shown_length (parts_of event), shown_fits event, fits))
