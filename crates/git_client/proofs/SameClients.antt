-- A client with the same fields is the same, whatever shows what holds of them.
use Rattle.std.proofs.Common.{◌≡◌, ◌≢◌, ◌∙◌, ◌≤◌, true, false, [], None, ap, subst, sym}
use Rattle.std.proofs.Props.{props}
use Rattle.std.specs.Option.{ForSome}
use Rattle.git_pkt.specs.Machine.BandReader.{MayPass}
use Rattle.git_pkt.specs.Machine.PacketReader.{fault_of as reader_fault_of, is_open, passes_of}
use Rattle.git_pkt.specs.declared.reader.PacketReader.{PacketReader}
use Rattle.git_msg.specs.Machine.HeldRequest.{format_of as request_format, kept_of, limit_of, stored_of}
use Rattle.git_client.specs.Machine.Turns.{fault_in, is_asking, left_in, takes_bands, takes_packets}
use Rattle.git_client.specs.declared.client.Client.{Client}

module _ {A : Type 0} (s : Client A) where
  abbrev Sound : PacketReader → Type 0
  Sound reader = fault_in s.phase ≡ None → reader_fault_of reader ≡ None

  abbrev Shut : PacketReader → Type 0
  Shut reader = fault_in s.phase ≡ None → takes_packets s.phase ≡ false → is_open reader ≡ false

  abbrev Gathers : PacketReader → Type 0
  Gathers reader = takes_bands s.phase ≡ false → passes_of reader ≡ false

  abbrev Passes : PacketReader → Type 0
  Passes reader = takes_bands s.phase ≡ true → MayPass reader

  abbrev HasUnsent : Type 0
  HasUnsent = is_asking s.phase ≡ true → left_in s.phase s.request ≢ []

  abbrev Freed : Type 0
  Freed = is_asking s.phase ≡ false → s.request ≡ None

  abbrev Formats : Type 0
  Formats = ForSome s.request (λ q. request_format q ≡ s.format)

  abbrev Covered : Type 0
  Covered = ForSome s.request (λ q. stored_of q ≤ kept_of q)

  abbrev Within : Type 0
  Within = ForSome s.request (λ q. kept_of q ≤ limit_of q)

  -- the client with another packet reader
  abbrev pub with_reader : (reader : PacketReader) → Sound reader → Shut reader → Gathers reader → Passes reader → HasUnsent → Freed → Formats → Covered
      → Within → Client A
  with_reader reader sound shut gathers passes has_unsent freed formats covered within = record {
    reader = reader;
    format = s.format;
    of_any_format = s.of_any_format;
    ending = s.ending;
    agent = s.agent;
    phase = s.phase;
    caps = s.caps;
    request = s.request;
    content = s.content;
    sound = sound;
    shut = shut;
    gathers = gathers;
    passes = passes;
    has_unsent = has_unsent;
    freed = freed;
    formats = formats;
    covered = covered;
    within = within;
  }

  same_facts : (sound : Sound s.reader) (shut : Shut s.reader) (gathers : Gathers s.reader) (passes : Passes s.reader) (has_unsent : HasUnsent)
      (freed : Freed) (formats : Formats) (covered : Covered) (within : Within)
      → with_reader s.reader sound shut gathers passes has_unsent freed formats covered within ≡ s
  same_facts sound shut gathers passes has_unsent freed formats covered within =
      let sound_prop : IsProp (Sound s.reader) = hlevel props in
      let shut_prop : IsProp (Shut s.reader) = hlevel props in
      let gathers_prop : IsProp (Gathers s.reader) = hlevel props in
      let passes_prop : IsProp (Passes s.reader) = hlevel props in
      let unsent_prop : IsProp HasUnsent = hlevel props in
      let freed_prop : IsProp Freed = hlevel props in
      let formats_prop : IsProp Formats = hlevel props in
      let covered_prop : IsProp Covered = hlevel props in
      let within_prop : IsProp Within = hlevel props in
      ap (λ (x : Sound s.reader). with_reader s.reader x shut gathers passes has_unsent freed formats covered within) (sound_prop sound s.sound)
      ∙ ap (λ (x : Shut s.reader). with_reader s.reader s.sound x gathers passes has_unsent freed formats covered within) (shut_prop shut s.shut)
      ∙ ap (λ (x : Gathers s.reader). with_reader s.reader s.sound s.shut x passes has_unsent freed formats covered within) (gathers_prop gathers s.gathers)
      ∙ ap (λ (x : Passes s.reader). with_reader s.reader s.sound s.shut s.gathers x has_unsent freed formats covered within) (passes_prop passes s.passes)
      ∙ ap (λ (x : HasUnsent). with_reader s.reader s.sound s.shut s.gathers s.passes x freed formats covered within) (unsent_prop has_unsent s.has_unsent)
      ∙ ap (λ (x : Freed). with_reader s.reader s.sound s.shut s.gathers s.passes s.has_unsent x formats covered within) (freed_prop freed s.freed)
      ∙ ap (λ (x : Formats). with_reader s.reader s.sound s.shut s.gathers s.passes s.has_unsent s.freed x covered within) (formats_prop formats s.formats)
      ∙ ap (λ (x : Covered). with_reader s.reader s.sound s.shut s.gathers s.passes s.has_unsent s.freed s.formats x within)
      (covered_prop covered s.covered)
      ∙ ap (λ (x : Within). with_reader s.reader s.sound s.shut s.gathers s.passes s.has_unsent s.freed s.formats s.covered x) (within_prop within s.within)

  -- it is the same if the packet reader is the same
  pub same_reader : (reader : PacketReader) (sound : Sound reader) (shut : Shut reader) (gathers : Gathers reader) (passes : Passes reader)
      (has_unsent : HasUnsent) (freed : Freed) (formats : Formats) (covered : Covered) (within : Within) → reader ≡ s.reader
      → with_reader reader sound shut gathers passes has_unsent freed formats covered within ≡ s
  same_reader reader sound shut gathers passes has_unsent freed formats covered within same =
      subst
      (λ (x : PacketReader). (a : Sound x) (b : Shut x) (d : Gathers x) (e : Passes x) → with_reader x a b d e has_unsent freed formats covered within ≡ s)
      (sym same)
      (λ a b d e. same_facts a b d e has_unsent freed formats covered within) sound shut gathers passes
