-- The lines of fetch's response sections and of the response to object-info, as in gitprotocol-v2(5).
use Rattle.std.specs.Prelude.{◌≡◌, ◌≢◌, ◌⊎◌, ℕ, ◌<◌, ◌^◌, List, [], ◌∷◌, ◌++◌, Option, Some, None, codes, decimal}
use Rattle.git_names.specs.ObjectName.{ObjectName, IsObjectName, IsNoObjectName, hex_of}
use Rattle.git_names.specs.RefName.{IsRefName, Lacks}
use Rattle.git_names.specs.declared.object_format.Format.{Format}
use Rattle.git_pkt.specs.declared.fault.Kind.{Kind}
use Rattle.git_pkt.specs.declared.fault.Kind.TheVariants.{BadLine, BadNumber, BadObjectName, BadRefName}
use Rattle.git_msg.specs.declared.response_lines.Boundary.{Boundary}
use Rattle.git_msg.specs.declared.response_lines.Boundary.TheVariants.{Shallow, Unshallow}
use Rattle.git_msg.specs.declared.response_lines.WantedRef.{WantedRef}
use Rattle.git_msg.specs.declared.response_lines.Info.{Info}
use Rattle.git_msg.specs.Arguments.{IsNumberIn, IsNoNumberIn}
use Rattle.git_msg.specs.Texts.{BeginsOtherThan, Follows, IsPartedAt}

-- a reference that was requested by its name, wherever the name lies, and the object that it points to
pub record Wanted : Type 0 where
  pub id : ObjectName
  pub name : List ℕ

abbrev pub wanted_of : ObjectName → List ℕ → Wanted
wanted_of id name = record { id = id; name = name }

-- the wanted reference that a borrowed one shows
abbrev pub shown_wanted : WantedRef → Wanted
shown_wanted wanted = wanted_of wanted.id wanted.name.now

-- the object of a line of the boundary
abbrev pub object_of : Boundary → ObjectName
object_of (Shallow id) = id
object_of (Unshallow id) = id

-- the text is the word and then the object's name, in digits of either case
abbrev pub IsNamed : List ℕ → Format → List ℕ → ObjectName → Type 0
IsNamed word format text id = Follows word (λ name. IsObjectName format name id) text

-- a text that has to be the word and then an object's name is refused with this error: its beginning is judged first
abbrev pub IsNamedFault : List ℕ → Format → List ℕ → Kind → Type 0
IsNamedFault word format text BadLine = BeginsOtherThan word text
IsNamedFault word format text BadObjectName = Follows word (IsNoObjectName format) text
IsNamedFault word format text _ = ⊥

-- the text is the line for this object, which is common to both ends
abbrev pub IsAckLine : Format → List ℕ → ObjectName → Type 0
IsAckLine format text id = IsNamed (codes "ACK ") format text id

-- the line is refused with this error
abbrev pub IsAckFault : Format → List ℕ → Kind → Type 0
IsAckFault format text kind = IsNamedFault (codes "ACK ") format text kind

-- the text is this line of the shallow boundary
abbrev pub IsBoundaryLine : Format → List ℕ → Boundary → Type 0
IsBoundaryLine format text (Shallow id) = IsNamed (codes "shallow ") format text id
IsBoundaryLine format text (Unshallow id) = IsNamed (codes "unshallow ") format text id

-- the line is refused with this error: it has to begin with one of the two words
abbrev pub IsBoundaryFault : Format → List ℕ → Kind → Type 0
IsBoundaryFault format text BadLine =
    IsNamedFault (codes "shallow ") format text BadLine × IsNamedFault (codes "unshallow ") format text BadLine
IsBoundaryFault format text kind =
    IsNamedFault (codes "shallow ") format text kind ⊎ IsNamedFault (codes "unshallow ") format text kind

-- the text is this wanted reference: an object name, a space, and then a reference name, which is all after the first space
pub record IsWantedLine (format : Format) (text : List ℕ) (wanted : Wanted) : Type 0 where
  pub id : List ℕ
  pub spelled : text ≡ id ++ 32 ∷ wanted.name
  pub id_is : IsObjectName format id wanted.id
  pub name_is : IsRefName wanted.name

-- the bytes before the first space of the text are no object name
abbrev pub BeginsWithNoName : Format → List ℕ → Type 0
BeginsWithNoName format text = (id : List ℕ) × (rest : List ℕ) × IsPartedAt 32 text id rest × IsNoObjectName format id

-- the bytes before the first space of the text are an object name, and those after that space meet P
abbrev pub BeginsWithName : Format → (List ℕ → Type 0) → List ℕ → Type 0
BeginsWithName format P text =
    (id : List ℕ) × (rest : List ℕ) × IsPartedAt 32 text id rest × ((named : ObjectName) × IsObjectName format id named) × P rest

-- the line is refused with this error: first if it has no space, and then from left to right
abbrev pub IsWantedFault : Format → List ℕ → Kind → Type 0
IsWantedFault format text BadLine = Lacks text 32
IsWantedFault format text BadObjectName = BeginsWithNoName format text
IsWantedFault format text BadRefName = BeginsWithName format (λ name. ¬ IsRefName name) text
IsWantedFault format text _ = ⊥

-- a size in bytes, of 64 bits
abbrev pub IsSize : ℕ → Type 0
IsSize size = size < 2 ^ 64

-- the text is a size, or nothing if the object is not there
abbrev pub IsSizeText : List ℕ → Option ℕ → Type 0
IsSizeText text None = text ≡ []
IsSizeText text (Some size) = IsNumberIn IsSize text size

-- the text is neither a size nor nothing
pub record IsNoSizeText (text : List ℕ) : Type 0 where
  pub some : text ≢ []
  pub no_number : IsNoNumberIn IsSize text

-- the text is the line for an object: its name, a space, and then its size or nothing, which is all after the first space
pub record IsInfoLine (format : Format) (text : List ℕ) (info : Info) : Type 0 where
  pub id : List ℕ
  pub size : List ℕ
  pub spelled : text ≡ id ++ 32 ∷ size
  pub id_is : IsObjectName format id info.id
  pub size_is : IsSizeText size info.size

-- the line is refused with this error: first if it has no space, and then from left to right
abbrev pub IsInfoFault : Format → List ℕ → Kind → Type 0
IsInfoFault format text BadLine = Lacks text 32
IsInfoFault format text BadObjectName = BeginsWithNoName format text
IsInfoFault format text BadNumber = BeginsWithName format IsNoSizeText text
IsInfoFault format text _ = ⊥

-- the lines as they are written
abbrev pub ack_text : ObjectName → List ℕ
ack_text id = codes "ACK " ++ hex_of id

abbrev pub boundary_text : Boundary → List ℕ
boundary_text (Shallow id) = codes "shallow " ++ hex_of id
boundary_text (Unshallow id) = codes "unshallow " ++ hex_of id

abbrev pub wanted_text : Wanted → List ℕ
wanted_text wanted = hex_of wanted.id ++ 32 ∷ wanted.name

-- a size in decimal digits, or nothing
abbrev pub size_text : Option ℕ → List ℕ
size_text None = []
size_text (Some size) = decimal size

abbrev pub info_text : Info → List ℕ
info_text info = hex_of info.id ++ 32 ∷ size_text info.size
