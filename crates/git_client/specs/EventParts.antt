-- An event as a row of a table: its kind, the word of its line, and each part that events may have.
use Rattle.std.specs.Prelude.{ℕ, List, Option, Some, None, codes}
use Rattle.std.specs.Option.{option_copied}
use Rattle.git_names.specs.ObjectName.{ObjectName}
use Rattle.git_client.specs.declared.event_parts.EventKind.{EventKind}
use Rattle.git_client.specs.declared.event_parts.EventParts.{EventParts}
use Rattle.git_client.specs.declared.events.Event.{Event}
use Rattle.git_client.specs.Sections.{header_of}

-- the word that begins the line of such an event; a section, and bytes of the pack and of the progress, have no line
abbrev pub word_of : EventKind → Option (List ℕ)
word_of EventKind.Capability = Some (codes "capability")
word_of EventKind.Offered = Some (codes "offered")
word_of EventKind.Reference = Some (codes "ref")
word_of EventKind.Section = None
word_of EventKind.Ack = Some (codes "ack")
word_of EventKind.Nak = Some (codes "nak")
word_of EventKind.Ready = Some (codes "ready")
word_of EventKind.Shallow = Some (codes "shallow")
word_of EventKind.Unshallow = Some (codes "unshallow")
word_of EventKind.WantedRef = Some (codes "wanted-ref")
word_of EventKind.Info = Some (codes "info")
word_of EventKind.Pack = None
word_of EventKind.Progress = None
word_of EventKind.Ended = Some (codes "end")

-- the kind and the parts of an event, whatever memory its texts are in
pub record Parts : Type 0 where
  pub kind : EventKind
  pub id : Option ObjectName
  pub name : Option (List ℕ)
  pub text : Option (List ℕ)
  pub peeled : Option ObjectName
  pub size : Option ℕ

-- the parts that borrowed ones show
abbrev pub parts_shown : EventParts → Parts
parts_shown p = record {
  kind = p.kind;
  id = option_copied p.id;
  name = option_copied p.name;
  text = option_copied p.text;
  peeled = option_copied p.peeled;
  size = p.size;
}

-- an event of this kind without parts
abbrev pub bare : EventKind → Parts
bare kind = record { kind = kind; id = None; name = None; text = None; peeled = None; size = None }

-- an event that has an object and nothing else
abbrev pub of_object : EventKind → ObjectName → Parts
of_object kind id = record { kind = kind; id = Some id; name = None; text = None; peeled = None; size = None }

-- an event that has a text and nothing else
abbrev pub of_text : EventKind → List ℕ → Parts
of_text kind text = record { kind = kind; id = None; name = None; text = Some text; peeled = None; size = None }

-- the parts of an event: a capability's key is the name and its value the text; a reference's target is the text; the text of a section's header
-- is the name
abbrev pub parts_of : Event → Parts
parts_of (Event.Capability c) = record {
  kind = EventKind.Capability;
  id = None;
  name = Some c.key.now;
  text = option_copied c.value;
  peeled = None;
  size = None;
}
parts_of Event.Offered = bare EventKind.Offered
parts_of (Event.Reference id name target peeled) = record {
  kind = EventKind.Reference;
  id = option_copied id;
  name = Some name.now;
  text = option_copied target;
  peeled = option_copied peeled;
  size = None;
}
parts_of (Event.Section section) =
    record { kind = EventKind.Section; id = None; name = Some (header_of section); text = None; peeled = None; size = None }
parts_of (Event.Ack id) = of_object EventKind.Ack id.now
parts_of Event.Nak = bare EventKind.Nak
parts_of Event.Ready = bare EventKind.Ready
parts_of (Event.Shallow id) = of_object EventKind.Shallow id.now
parts_of (Event.Unshallow id) = of_object EventKind.Unshallow id.now
parts_of (Event.WantedRef id name) =
    record { kind = EventKind.WantedRef; id = Some id.now; name = Some name.now; text = None; peeled = None; size = None }
parts_of (Event.Info id size) =
    record { kind = EventKind.Info; id = Some id.now; name = None; text = None; peeled = None; size = size }
parts_of (Event.Pack bytes) = of_text EventKind.Pack bytes.now
parts_of (Event.Progress bytes) = of_text EventKind.Progress bytes.now
parts_of Event.Ended = bare EventKind.Ended
