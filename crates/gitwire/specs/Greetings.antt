-- The greeting with which a client begins a connection to `git daemon`: the first packet of gitprotocol-pack(5).
use Rattle.std.specs.Prelude.{◌≡◌, ◌≢◌, ◌⊎◌, ℕ, ◌+◌, ◌≤◌, ◌<◌, Bool, true, false, List, [], ◌∷◌, ◌++◌, Option, Some, None, IfSome, codes, cond, is_some}
use Rattle.std.specs.Prelude.{length, unwrap_or}
use Rattle.std.specs.List.{list_any}
use Rattle.std.specs.Option.{option_map}
use Rattle.std.specs.Str.{bytes_eq}
use Rattle.git_names.specs.RefName.{Lacks}
use Rattle.git_pkt.specs.FaultNames.{kind_number}
use Rattle.git_pkt.specs.Packets.{payload, longest_payload, spelling_of}
use Rattle.git_pkt.specs.declared.fault.Kind.{Kind}
use Rattle.git_pkt.specs.declared.fault.Kind.TheVariants.{BadLine, TooLong}
use Rattle.gitwire.specs.Answers.{answering_fault, answering_packet, what_number}
use Rattle.gitwire.specs.Buffers.{put_before}
use Rattle.gitwire.specs.WrittenForC.{given}
use Rattle.gitwire.specs.declared.answer.GitwireAnswer.{GitwireAnswer}
use Rattle.gitwire.specs.declared.answer.What.TheVariants.{Done, Failed, BufferTooSmall}
use Rattle.gitwire.specs.declared.greetings.GitwireGreeting.{GitwireGreeting}
use Rattle.gitwire.specs.declared.greetings.Command.{Command}
use Rattle.gitwire.specs.declared.greetings.Service.{Service}
use Rattle.gitwire.specs.declared.greetings.Tail.{Tail}
use Rattle.gitwire.specs.declared.greetings.Service.TheVariants.{UploadPack, ReceivePack, UploadArchive}

-- the word that asks for a service
abbrev pub service_word : Service → List ℕ
service_word UploadPack = codes "git-upload-pack"
service_word ReceivePack = codes "git-receive-pack"
service_word UploadArchive = codes "git-upload-archive"

-- its number in C
abbrev pub service_number : Service → ℕ
service_number UploadPack = 1
service_number ReceivePack = 2
service_number UploadArchive = 3

-- what a greeting has: the service, the repository's path, the host as the client calls it, and further parameters
pub record Greeting : Type 0 where
  pub service : Service
  pub path : List ℕ
  pub host : Option (List ℕ)
  pub parameters : List (List ℕ)

-- the service and the path
abbrev pub command_text : Service → List ℕ → List ℕ
command_text service path = service_word service ++ 32 ∷ path

-- the host, if there is one, with a NUL
abbrev pub host_text : Option (List ℕ) → List ℕ
host_text None = []
host_text (Some host) = codes "host=" ++ (host ++ 0 ∷ [])

-- each parameter with a NUL
abbrev pub parameters_text : List (List ℕ) → List ℕ
parameters_text [] = []
parameters_text (parameter ∷ parameters) = parameter ++ 0 ∷ parameters_text parameters

-- the parameters, after one NUL more, if there are any
abbrev pub parameters_part : List (List ℕ) → List ℕ
parameters_part [] = []
parameters_part (parameter ∷ parameters) = 0 ∷ parameters_text (parameter ∷ parameters)

-- what comes after the first NUL
abbrev pub tail_text : Option (List ℕ) → List (List ℕ) → List ℕ
tail_text host parameters = host_text host ++ parameters_part parameters

-- the payload of the greeting's packet
abbrev pub greeting_text : Greeting → List ℕ
greeting_text g = command_text g.service g.path ++ 0 ∷ tail_text g.host g.parameters

-- a parameter has bytes, and no NUL among them
abbrev pub IsParameter : List ℕ → Type 0
IsParameter text = (text ≢ []) × Lacks text 0

abbrev pub AreParameters : List (List ℕ) → Type 0
AreParameters [] = Unit {0}
AreParameters (parameter ∷ parameters) = IsParameter parameter × AreParameters parameters

-- what comes after the first NUL is the host and the parameters
pub record IsTail (host : Option (List ℕ)) (parameters : List (List ℕ)) (text : List ℕ) : Type 0 where
  pub spelled : text ≡ tail_text host parameters
  pub is_host : IfSome host (λ name. Lacks name 0)
  pub are_parameters : AreParameters parameters

-- the parameter that asks for version 2 is among these
abbrev pub asks_for_version_2 : List (List ℕ) → Bool
asks_for_version_2 parameters = list_any (λ parameter. bytes_eq parameter (codes "version=2")) parameters

-- some parameters are the text, and whether one of them asks for version 2
abbrev pub AreParametersOf : List ℕ → Bool → Type 0
AreParametersOf text wants = (parameters : List (List ℕ)) × AreParameters parameters × (text ≡ parameters_text parameters)
    × (wants ≡ asks_for_version_2 parameters)

abbrev pub AreNoParameters : List ℕ → Type 0
AreNoParameters text = (parameters : List (List ℕ)) → AreParameters parameters → text ≢ parameters_text parameters

abbrev pub IsParametersPartOf : List ℕ → Bool → Type 0
IsParametersPartOf text wants = (parameters : List (List ℕ)) × AreParameters parameters × (text ≡ parameters_part parameters)
    × (wants ≡ asks_for_version_2 parameters)

abbrev pub IsNoParametersPart : List ℕ → Type 0
IsNoParametersPart text = (parameters : List (List ℕ)) → AreParameters parameters → text ≢ parameters_part parameters

-- what comes after the first NUL, and what is noted of it
abbrev pub IsTailOf : List ℕ → Tail → Type 0
IsTailOf text tail = (host : Option (List ℕ)) × (parameters : List (List ℕ)) × IsTail host parameters text
    × (tail.host_length ≡ option_map length host) × (tail.wants_version_2 ≡ asks_for_version_2 parameters)

abbrev pub IsNoTail : List ℕ → Type 0
IsNoTail text = (host : Option (List ℕ)) (parameters : List (List ℕ)) → ¬ IsTail host parameters text

-- the service and the path, and what is noted of them
abbrev pub IsCommand : List ℕ → Command → Type 0
IsCommand text command = (path : List ℕ) × (text ≡ command_text command.service path) × (command.path_length ≡ length path)

abbrev pub IsNoCommand : List ℕ → Type 0
IsNoCommand text = (service : Service) (path : List ℕ) → text ≢ command_text service path

-- the payload is this greeting's: no part of it has a NUL
pub record IsGreeting (g : Greeting) (bytes : List ℕ) : Type 0 where
  pub spelled : bytes ≡ greeting_text g
  pub is_path : Lacks g.path 0
  pub is_host : IfSome g.host (λ name. Lacks name 0)
  pub are_parameters : AreParameters g.parameters

-- the part is in the payload, from this index on and this long
pub record LiesAt (bytes part : List ℕ) (at long : ℕ) : Type 0 where
  pub before : List ℕ
  pub after : List ℕ
  pub whole : bytes ≡ before ++ (part ++ after)
  pub at_is : at ≡ length before
  pub long_is : long ≡ length part

-- it is shown to C where the host is, or that there is none
abbrev pub ShowsHost : List ℕ → Option (List ℕ) → GitwireGreeting → Type 0
ShowsHost bytes None shown = (shown.has_host ≡ false) × (shown.host ≡ 0) × (shown.host_length ≡ 0)
ShowsHost bytes (Some host) shown = (shown.has_host ≡ true) × LiesAt bytes host shown.host shown.host_length

-- the greeting in the payload is shown to C
pub record Shows (bytes : List ℕ) (g : Greeting) (shown : GitwireGreeting) : Type 0 where
  pub kind : shown.kind ≡ what_number Done
  pub fault : shown.fault ≡ 0
  pub service : shown.service ≡ service_number g.service
  pub path : LiesAt bytes g.path shown.path shown.path_length
  pub host : ShowsHost bytes g.host shown
  pub version : shown.wants_version_2 ≡ asks_for_version_2 g.parameters

-- the payload is a greeting, which is shown to C
pub record ShowsOne (bytes : List ℕ) (shown : GitwireGreeting) : Type 0 where
  pub g : Greeting
  pub is_greeting : IsGreeting g bytes
  pub shows : Shows bytes g shown

-- what is reported to C of a payload that is none
abbrev pub no_greeting : GitwireGreeting
no_greeting = record {
  path = 0;
  path_length = 0;
  host = 0;
  host_length = 0;
  kind = what_number Failed;
  fault = kind_number BadLine;
  service = 0;
  has_host = false;
  wants_version_2 = false;
}

-- the payload is no greeting
abbrev pub IsNoGreeting : List ℕ → Type 0
IsNoGreeting bytes = (g : Greeting) → ¬ IsGreeting g bytes

-- what is reported to C of a payload
abbrev pub ReadsGreeting : List ℕ → GitwireGreeting → Type 0
ReadsGreeting bytes shown = ShowsOne bytes shown ⊎ (IsNoGreeting bytes × (shown ≡ no_greeting))

-- what is shown to C of a command and what comes after it
abbrev pub shown_of : Command → Tail → GitwireGreeting
shown_of command tail = record {
  path = length (service_word command.service) + 1;
  path_length = command.path_length;
  host = cond (is_some tail.host_length) (length (service_word command.service) + 1 + command.path_length + 6) 0;
  host_length = unwrap_or tail.host_length 0;
  kind = what_number Done;
  fault = 0;
  service = service_number command.service;
  has_host = is_some tail.host_length;
  wants_version_2 = tail.wants_version_2;
}

-- bytes are put after those at the front of a buffer
abbrev pub Adds : List ℕ → ℕ → List ℕ → ℕ → List ℕ → Type 0
Adds bytes at old end new = (front base : List ℕ) → at ≡ length front → old ≡ put_before front base
    → (end ≡ length (front ++ bytes)) × (new ≡ put_before (front ++ bytes) base)

-- the greeting of a client that fetches from this path by version 2; a host without bytes is none
abbrev pub asking : List ℕ → List ℕ → Greeting
asking path host = record { service = UploadPack; path = path; host = given host; parameters = codes "version=2" ∷ [] }

-- the bytes are at the front of the buffer; or it is reported that this is too small, and how many they are
pub record HandsOut (bytes buffer : List ℕ) (answer : GitwireAnswer) (filled : List ℕ) : Type 0 where
  pub done : length bytes ≤ length buffer → (answer ≡ answering_packet 0 0 (length bytes) Done) × (filled ≡ put_before bytes buffer)
  pub too_small : length buffer < length bytes → (answer ≡ answering_packet 0 0 (length bytes) BufferTooSmall) × (filled ≡ buffer)

-- nothing is written, by this kind of error
abbrev pub Refuses : Kind → List ℕ → GitwireAnswer → List ℕ → Type 0
Refuses kind buffer answer filled = (answer ≡ answering_fault 0 (record { kind = kind; offset = 0 })) × (filled ≡ buffer)

-- the greeting's packet is handed out; not if the path or the host has a NUL, or if they are too long for a packet
pub record WritesGreeting (path host buffer : List ℕ) (answer : GitwireAnswer) (filled : List ℕ) : Type 0 where
  pub written : Lacks path 0 → Lacks host 0 → length (greeting_text (asking path host)) ≤ longest_payload
      → HandsOut (spelling_of (payload (greeting_text (asking path host)))) buffer answer filled
  pub too_long : Lacks path 0 → Lacks host 0 → longest_payload < length (greeting_text (asking path host)) → Refuses TooLong buffer answer filled
  pub has_nul : ¬ (Lacks path 0 × Lacks host 0) → Refuses BadLine buffer answer filled
