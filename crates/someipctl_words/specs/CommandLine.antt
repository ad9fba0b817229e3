-- The command line, and what its words ask for.
use Rattle.std.specs.Prelude.{◌==◌, ◌≡◌, ◌≢◌, ◌⊎◌, Bool, true, false, List, [], ◌∷◌, codes, map, Option, Some, None, option_map, option_and_then, unwrap_or, if◌then◌else◌}
use Rattle.std.specs.Str.{bytes_eq}
use Rattle.std.specs.Borrow.{Bor}
use Rattle.clap.specs.Words.{App, IsAmong, Row, Rule, Shape, Text, all_of, fault_of, first_of, kind_of}
use Rattle.clap.specs.Words.{matched_of, raw_values}
use Rattle.clap.specs.declared.parser.matches.Found.{Found}
use Rattle.clap.specs.Words.{new_app, new_rule, subcommand_of, with_rule, with_subcommand}
use Rattle.clap.specs.Simple.{on_top}
use Rattle.clap.specs.declared.Error.{Error}
use Rattle.clap.specs.declared.error.ErrorKind.{ErrorKind}
use Rattle.clap.specs.declared.error.ErrorKind.TheVariants as kind
use Rattle.clap.specs.declared.builder.ArgAction.TheVariants.{Append, SetTrue}
use Rattle.someipctl_words.specs.declared.command.Command.{Command}
use Rattle.someipctl_words.specs.declared.command.Command.TheVariants.{Show, Payload, Encode, Vectors, Run, Recording, Chart, Audit, Explore, Extract, Services, Stats}
use Rattle.someipctl_words.specs.declared.command.AuditOptions.{AuditOptions}
use Rattle.someipctl_words.specs.declared.command.ChoiceOptions.{ChoiceOptions}
use Rattle.someipctl_words.specs.declared.command.PacketOptions.{PacketOptions}
use Rattle.someipctl_words.specs.declared.command.SettingOptions.{SettingOptions}
use Rattle.someipctl_words.specs.declared.command.RecordingOptions.{RecordingOptions}
use Rattle.someipctl_words.specs.declared.explore_words.ExploreOptions.{ExploreOptions}
use Rattle.someipctl_words.specs.declared.extract_words.ExtractOptions.{ExtractOptions}
use Rattle.someipctl_words.specs.declared.report_words.ReportOptions.{ReportOptions}
use Rattle.someipctl_words.specs.declared.stats_words.StatsOptions.{StatsOptions}
use Rattle.someipctl_words.specs.declared.command.LineError.{LineError}
use Rattle.someipctl_words.specs.declared.command.LineError.TheVariants.{Usage, Help, OutOfMemory}

-- ---- what the program takes

-- a required positional argument
abbrev pub required : Text → Rule
required id = record (new_rule id) { value_names = 1; required = true }

-- a required positional argument that stands once or more
abbrev pub required_many : Text → Rule
required_many id = record (new_rule id) { value_names = 1; required = true; action = Some Append }

-- an option with a value, and one without, by their names
abbrev pub valued : Text → Rule
valued name = record (new_rule name) { long = Some name; value_names = 1 }

abbrev pub flag : Text → Rule
flag name = record (new_rule name) { long = Some name; action = Some SetTrue }

-- an option with a value that may be given several times
abbrev pub valued_many : Text → Rule
valued_many name = record (valued name) { action = Some Append }

-- the command with the options that name services and a types file
abbrev pub with_filters : App → App
with_filters command = with_rule (with_rule command (valued (codes "service"))) (valued (codes "types"))

-- the command with the option that asks for JSON objects
abbrev pub with_json : App → App
with_json command = with_rule command (flag (codes "json"))

-- `show [--service SERVICES] [--types FILE] [--json] CAPTURE`
abbrev pub show_usage : Shape
show_usage = (with_rule (with_json (with_filters (new_app (codes "show")))) (required (codes "capture"))).top

-- `payload SHAPE HEX`
abbrev pub payload_usage : Shape
payload_usage = (with_rule (with_rule (new_app (codes "payload")) (required (codes "shape"))) (required (codes "hex"))).top

-- `encode SHAPE VALUE`
abbrev pub encode_usage : Shape
encode_usage = (with_rule (with_rule (new_app (codes "encode")) (required (codes "shape"))) (required (codes "value"))).top

-- `vectors [--json] FILE`
abbrev pub vectors_usage : Shape
vectors_usage = (with_rule (with_json (new_app (codes "vectors"))) (required (codes "file"))).top

-- the command with the two files of a run as its further arguments
abbrev pub with_inputs : App → App
with_inputs command = with_rule (with_rule command (required (codes "setup"))) (required (codes "schedule"))

-- `run [--expect TRACE] [--begins TRACE] [--lines] [--json] SETUP SCHEDULE`
abbrev pub run_options : App
run_options = with_json (with_rule (with_rule (with_rule (new_app (codes "run")) (valued (codes "expect"))) (valued (codes "begins"))) (flag (codes "lines")))

abbrev pub run_usage : Shape
run_usage = (with_inputs run_options).top

-- the command with the options on messages that are put together
abbrev pub with_whole : App → App
with_whole command =
    with_rule (with_rule (with_rule (with_rule command (flag (codes "whole"))) (valued (codes "whole-limit"))) (valued (codes "whole-slots"))) (valued (codes "whole-timeout"))

-- the command with the options that choose by addresses, client and times, and that which learns endpoints
abbrev pub with_choice : App → App
with_choice command =
    with_rule (with_rule (with_rule (with_rule (with_rule command (valued (codes "address"))) (valued (codes "client"))) (valued (codes "from"))) (valued (codes "until")))
    (flag (codes "learned"))

-- the command with the options that choose packets
abbrev pub with_packets : App → App
with_packets command = with_rule (with_rule (with_rule command (valued (codes "interface"))) (valued (codes "vlan"))) (valued (codes "dedup"))

-- the command with the options that number and choose the lines of findings
abbrev pub with_findings : App → App
with_findings command = with_rule (with_rule (with_rule command (flag (codes "frames"))) (flag (codes "group"))) (valued (codes "service"))

-- the command with the options that say what stands before each line
abbrev pub with_heads : App → App
with_heads command = with_rule (with_rule command (flag (codes "frames"))) (flag (codes "endpoints"))

-- `recording [--ports PORTS] [--frames] [--endpoints] [--json] [--service SERVICES] [--types FILE] [--address A]
-- [--client C] [--from TIME] [--until TIME] [--learned] [--interface N] [--vlan ID] [--dedup MS] [--whole]
-- [--whole-limit N] [--whole-slots N] [--whole-timeout MS] FILE..`
abbrev pub recording_options : App
recording_options = with_whole (with_packets (with_choice (with_filters (with_json (with_heads (with_rule (new_app (codes "recording")) (valued (codes "ports"))))))))

abbrev pub recording_usage : Shape
recording_usage = (with_rule recording_options (required_many (codes "file"))).top

-- `chart SETUP SCHEDULE`
abbrev pub chart_usage : Shape
chart_usage = (with_inputs (new_app (codes "chart"))).top

-- the command with the options that say which messages are lost, and not overtaken or of another event
abbrev pub with_session_settings : App → App
with_session_settings app = with_rule (with_rule app (valued (codes "overtake-ms"))) (valued (codes "sessions"))

-- `audit [--ports PORTS] [--answer-ms N] [--settle-ms N] [--overtake-ms N] [--sessions HOW] [--rules FILE] [--group] [--frames]
-- [--service SERVICES] [--json] [--address A] [--client C] [--from TIME] [--until TIME] [--learned] [--interface N] [--vlan ID] [--dedup MS] FILE..`
abbrev pub with_settings : App → App
with_settings app =
    with_rule (with_session_settings (with_rule (with_rule app (valued (codes "answer-ms"))) (valued (codes "settle-ms")))) (valued (codes "rules"))

abbrev pub audit_options : App
audit_options = with_packets (with_choice (with_json (with_findings (with_settings (with_rule (new_app (codes "audit")) (valued (codes "ports")))))))

abbrev pub audit_usage : Shape
audit_usage = (with_rule audit_options (required_many (codes "file"))).top

-- the command with the options that say what stands before the goal
abbrev pub with_conditions : App → App
with_conditions app = with_rule (with_rule app (valued_many (codes "once"))) (valued_many (codes "never"))

-- `explore [--after SCHEDULE] [--steps N] [--most M] [--once WORDS].. [--never WORDS].. [--progress] SETUP MOVES GOAL`
abbrev pub explore_options : App
explore_options =
    with_rule
    (with_conditions (with_rule (with_rule (with_rule (new_app (codes "explore")) (valued (codes "after"))) (valued (codes "steps"))) (valued (codes "most"))))
    (flag (codes "progress"))

abbrev pub explore_usage : Shape
explore_usage = (with_rule (with_rule (with_rule explore_options (required (codes "setup"))) (required (codes "moves"))) (required (codes "goal"))).top

-- `extract [--ports PORTS] [--service SERVICES] [--address A] [--client C] [--from TIME] [--until TIME] [--learned]
-- [--interface N] [--vlan ID] [--dedup MS] FILE..`
abbrev pub extract_options : App
extract_options = with_packets (with_choice (with_rule (with_rule (new_app (codes "extract")) (valued (codes "ports"))) (valued (codes "service"))))

abbrev pub extract_usage : Shape
extract_usage = (with_rule extract_options (required_many (codes "file"))).top

-- `services [--ports PORTS] [--json] [--service SERVICES] [--address A] [--client C] [--from TIME] [--until TIME] [--learned]
-- [--interface N] [--vlan ID] [--dedup MS] FILE..`
abbrev pub services_options : App
services_options =
    with_packets (with_choice (with_rule (with_json (with_rule (new_app (codes "services")) (valued (codes "ports")))) (valued (codes "service"))))

abbrev pub services_usage : Shape
services_usage = (with_rule services_options (required_many (codes "file"))).top

-- `stats [--ports PORTS] [--json] [--service SERVICES] [--overtake-ms N] [--sessions HOW] [--address A] [--client C]
-- [--from TIME] [--until TIME] [--learned] [--interface N] [--vlan ID] [--dedup MS] FILE..`
abbrev pub stats_options : App
stats_options =
    with_packets (with_choice (with_session_settings (with_rule (with_json (with_rule (new_app (codes "stats")) (valued (codes "ports")))) (valued (codes "service")))))

abbrev pub stats_usage : Shape
stats_usage = (with_rule stats_options (required_many (codes "file"))).top

-- the program alone, which asks for a subcommand
abbrev pub program : App
program = on_top (λ top. record top { subcommand_required = true }) (new_app (codes "someipctl"))

-- the program with the commands that read and write bytes
abbrev pub with_byte_commands : App
with_byte_commands = with_subcommand (with_subcommand (with_subcommand program show_usage) payload_usage) encode_usage

-- the program with the commands for bytes, vectors and schedules
abbrev pub with_file_commands : App
with_file_commands = with_subcommand (with_subcommand with_byte_commands vectors_usage) run_usage

-- the program with the commands for recordings and schedules
abbrev pub with_audit : App
with_audit = with_subcommand (with_subcommand (with_subcommand with_file_commands recording_usage) chart_usage) audit_usage

-- the program with all commands but the accounts of recordings
abbrev pub with_extract : App
with_extract = with_subcommand (with_subcommand with_audit explore_usage) extract_usage

-- the command line
abbrev pub cli : App
cli = with_subcommand (with_subcommand with_extract services_usage) stats_usage

-- ---- what words ask for

-- the options that choose packets
pub record PacketRequest : Type 0 where
  pub interface : Option Text
  pub vlan : Option Text
  pub dedup : Option Text

-- those that choose by addresses, client and times, and that which learns endpoints
pub record ChoiceRequest : Type 0 where
  pub address : Option Text
  pub client : Option Text
  pub from : Option Text
  pub until : Option Text
  pub learned : Bool

-- the options of `recording`
pub record RecordingRequest : Type 0 where
  pub packets : PacketRequest
  pub choice : ChoiceRequest
  pub ports : Option Text
  pub frames : Bool
  pub endpoints : Bool
  pub json : Bool
  pub service : Option Text
  pub types : Option Text
  pub whole : Bool
  pub limit : Option Text
  pub slots : Option Text
  pub timeout : Option Text

-- the settings of an audit
pub record SettingRequest : Type 0 where
  pub answer_ms : Option Text
  pub settle_ms : Option Text
  pub overtake_ms : Option Text
  pub sessions : Option Text

-- the options of `audit`
pub record AuditRequest : Type 0 where
  pub packets : PacketRequest
  pub choice : ChoiceRequest
  pub ports : Option Text
  pub frames : Bool
  pub group : Bool
  pub json : Bool
  pub service : Option Text
  pub settings : SettingRequest
  pub rules : Option Text

-- the options of `explore`
pub record ExploreRequest : Type 0 where
  pub after : Option Text
  pub steps : Option Text
  pub most : Option Text
  pub once : List Text
  pub never : List Text
  pub progress : Bool

-- the options of `extract`
pub record ExtractRequest : Type 0 where
  pub packets : PacketRequest
  pub choice : ChoiceRequest
  pub ports : Option Text
  pub service : Option Text

-- the options of `services`, which `stats` has too
pub record ReportRequest : Type 0 where
  pub packets : PacketRequest
  pub choice : ChoiceRequest
  pub ports : Option Text
  pub service : Option Text
  pub json : Bool

-- the options of `stats`
pub record StatsRequest : Type 0 where
  pub report : ReportRequest
  pub overtake_ms : Option Text
  pub sessions : Option Text

-- a command, without where its words lie in memory
pub data Request : Type 0 where
  show_request : Text → Option Text → Option Text → Bool → Request
  payload_request : Text → Text → Request
  encode_request : Text → Text → Request
  vectors_request : Text → Bool → Request
  run_request : Text → Text → Option Text → Option Text → (lines json : Bool) → Request
  recording_request : List Text → RecordingRequest → Request
  chart_request : Text → Text → Request
  audit_request : List Text → AuditRequest → Request
  explore_request : (setup moves goal : Text) → ExploreRequest → Request
  extract_request : List Text → ExtractRequest → Request
  services_request : List Text → ReportRequest → Request
  stats_request : List Text → StatsRequest → Request

abbrev pub text_at : Option (Bor Text) → Option Text
text_at text = option_map (λ t. t.now) text

-- the texts at references
abbrev pub texts_at : List (Bor Text) → List Text
texts_at texts = map (λ t. t.now) texts

abbrev pub asked_by_packets : PacketOptions → PacketRequest
asked_by_packets o = record { interface = text_at o.interface; vlan = text_at o.vlan; dedup = text_at o.dedup }

abbrev pub asked_by_choice : ChoiceOptions → ChoiceRequest
asked_by_choice o = record { address = text_at o.address; client = text_at o.client; from = text_at o.from; until = text_at o.until; learned = o.learned }

abbrev pub asked_by_options : RecordingOptions → RecordingRequest
asked_by_options o = record {
  packets = asked_by_packets o.packets;
  choice = asked_by_choice o.choice;
  ports = text_at o.ports;
  frames = o.frames;
  endpoints = o.endpoints;
  json = o.json;
  service = text_at o.service;
  types = text_at o.types;
  whole = o.whole;
  limit = text_at o.limit;
  slots = text_at o.slots;
  timeout = text_at o.timeout;
}

abbrev pub asked_by_settings : SettingOptions → SettingRequest
asked_by_settings o = record { answer_ms = text_at o.answer_ms; settle_ms = text_at o.settle_ms; overtake_ms = text_at o.overtake_ms; sessions = text_at o.sessions }

abbrev pub asked_by_audit_options : AuditOptions → AuditRequest
asked_by_audit_options o = record {
  packets = asked_by_packets o.packets;
  choice = asked_by_choice o.choice;
  ports = text_at o.ports;
  frames = o.frames;
  group = o.group;
  json = o.json;
  service = text_at o.service;
  settings = asked_by_settings o.settings;
  rules = text_at o.rules;
}

abbrev pub asked_by_explore_options : ExploreOptions → ExploreRequest
asked_by_explore_options o = record {
  after = text_at o.after;
  steps = text_at o.steps;
  most = text_at o.most;
  once = texts_at o.once.items;
  never = texts_at o.never.items;
  progress = o.progress;
}

abbrev pub asked_by_extract_options : ExtractOptions → ExtractRequest
asked_by_extract_options o = record { packets = asked_by_packets o.packets; choice = asked_by_choice o.choice; ports = text_at o.ports; service = text_at o.service }

abbrev pub asked_by_report_options : ReportOptions → ReportRequest
asked_by_report_options o = record {
  packets = asked_by_packets o.packets;
  choice = asked_by_choice o.choice;
  ports = text_at o.ports;
  service = text_at o.service;
  json = o.json;
}

abbrev pub asked_by_stats_options : StatsOptions → StatsRequest
asked_by_stats_options o = record { report = asked_by_report_options o.report; overtake_ms = text_at o.overtake_ms; sessions = text_at o.sessions }

-- what a command asks for
abbrev pub asked_by_command : Command → Request
asked_by_command (Show capture service types json) = show_request capture.now (text_at service) (text_at types) json
asked_by_command (Payload shape hex) = payload_request shape.now hex.now
asked_by_command (Encode shape value) = encode_request shape.now value.now
asked_by_command (Vectors file json) = vectors_request file.now json
asked_by_command (Run setup schedule expect begins lines json) = run_request setup.now schedule.now (text_at expect) (text_at begins) lines json
asked_by_command (Recording files options) = recording_request (texts_at files.items) (asked_by_options options)
asked_by_command (Chart setup schedule) = chart_request setup.now schedule.now
asked_by_command (Audit files options) = audit_request (texts_at files.items) (asked_by_audit_options options)
asked_by_command (Explore setup moves goal options) = explore_request setup.now moves.now goal.now (asked_by_explore_options options)
asked_by_command (Extract files options) = extract_request (texts_at files.items) (asked_by_extract_options options)
asked_by_command (Services files options) = services_request (texts_at files.items) (asked_by_report_options options)
asked_by_command (Stats files options) = stats_request (texts_at files.items) (asked_by_stats_options options)

-- an option without a value is on where it was given: then its value is that of true
abbrev pub is_on : Option Text → Bool
is_on None = false
is_on (Some value) = bytes_eq value (codes "true")

-- what `show` asks for, by the values of its argument and options
abbrev pub asked_by_show : (Text → Option Text) → Option Request
asked_by_show value =
    option_map (λ capture. show_request capture (value (codes "service")) (value (codes "types")) (is_on (value (codes "json")))) (value (codes "capture"))

-- what `payload` asks for
abbrev pub asked_by_payload : (Text → Option Text) → Option Request
asked_by_payload value = option_and_then (λ shape. option_map (payload_request shape) (value (codes "hex"))) (value (codes "shape"))

-- what `encode` asks for
abbrev pub asked_by_encode : (Text → Option Text) → Option Request
asked_by_encode value = option_and_then (λ shape. option_map (encode_request shape) (value (codes "value"))) (value (codes "shape"))

-- what `vectors` asks for
abbrev pub asked_by_vectors : (Text → Option Text) → Option Request
asked_by_vectors value = option_map (λ file. vectors_request file (is_on (value (codes "json")))) (value (codes "file"))

-- all values of an argument, of all its uses
abbrev pub values_of : Found → Text → List Text
values_of found id = unwrap_or (option_map raw_values (matched_of found id)) []

-- what `run` asks for
abbrev pub asked_by_run : (Text → Option Text) → Option Request
asked_by_run value =
    option_and_then
    (λ setup. option_map (λ schedule. run_request setup schedule (value (codes "expect")) (value (codes "begins")) (is_on (value (codes "lines"))) (is_on (value (codes "json")))) (value (codes "schedule")))
    (value (codes "setup"))

-- the options that choose packets, by what each matched
abbrev pub packet_options_of : (interface vlan dedup : Option Text) → PacketRequest
packet_options_of interface vlan dedup = record { interface = interface; vlan = vlan; dedup = dedup }

abbrev pub packet_options_by : (Text → Option Text) → PacketRequest
packet_options_by value = packet_options_of (value (codes "interface")) (value (codes "vlan")) (value (codes "dedup"))

-- none was given
abbrev pub no_packets : PacketRequest
no_packets = packet_options_of None None None

-- those that choose datagrams
abbrev pub choice_options_of : (address client from until learned : Option Text) → ChoiceRequest
choice_options_of address client from until learned = record { address = address; client = client; from = from; until = until; learned = is_on learned }

abbrev pub no_choice : ChoiceRequest
no_choice = choice_options_of None None None None None

abbrev pub choice_options_by : (Text → Option Text) → ChoiceRequest
choice_options_by value = choice_options_of (value (codes "address")) (value (codes "client")) (value (codes "from")) (value (codes "until")) (value (codes "learned"))

-- the options of `recording`, by what each matched
abbrev pub recording_options_of : PacketRequest → ChoiceRequest → (ports frames endpoints json service types whole limit slots timeout : Option Text) → RecordingRequest
recording_options_of packets choice ports frames endpoints json service types whole limit slots timeout = record {
  packets = packets;
  choice = choice;
  ports = ports;
  frames = is_on frames;
  endpoints = is_on endpoints;
  json = is_on json;
  service = service;
  types = types;
  whole = is_on whole;
  limit = limit;
  slots = slots;
  timeout = timeout;
}

abbrev pub recording_options_by : (Text → Option Text) → RecordingRequest
recording_options_by value =
    recording_options_of (packet_options_by value) (choice_options_by value)
    (value (codes "ports")) (value (codes "frames")) (value (codes "endpoints")) (value (codes "json")) (value (codes "service")) (value (codes "types"))
    (value (codes "whole")) (value (codes "whole-limit")) (value (codes "whole-slots")) (value (codes "whole-timeout"))

-- what `recording` asks for, by the values of its options and all values of its argument
abbrev pub asked_by_recording : (Text → Option Text) → (Text → List Text) → Option Request
asked_by_recording value values = option_map (λ file. recording_request (values (codes "file")) (recording_options_by value)) (value (codes "file"))

-- what `chart` asks for
abbrev pub asked_by_chart : (Text → Option Text) → Option Request
asked_by_chart value = option_and_then (λ setup. option_map (chart_request setup) (value (codes "schedule"))) (value (codes "setup"))

-- the options of `audit`, by what each matched
abbrev pub setting_options_of : (answer_ms settle_ms overtake_ms sessions : Option Text) → SettingRequest
setting_options_of answer_ms settle_ms overtake_ms sessions = record { answer_ms = answer_ms; settle_ms = settle_ms; overtake_ms = overtake_ms; sessions = sessions }

abbrev pub no_settings : SettingRequest
no_settings = setting_options_of None None None None

abbrev pub setting_options_by : (Text → Option Text) → SettingRequest
setting_options_by value = setting_options_of (value (codes "answer-ms")) (value (codes "settle-ms")) (value (codes "overtake-ms")) (value (codes "sessions"))

abbrev pub audit_options_of : PacketRequest → ChoiceRequest → (ports frames group json service : Option Text) → SettingRequest → (rules : Option Text) → AuditRequest
audit_options_of packets choice ports frames group json service settings rules = record {
  packets = packets;
  choice = choice;
  ports = ports;
  frames = is_on frames;
  group = is_on group;
  json = is_on json;
  service = service;
  settings = settings;
  rules = rules;
}

abbrev pub audit_options_by : (Text → Option Text) → AuditRequest
audit_options_by value =
    audit_options_of (packet_options_by value) (choice_options_by value)
    (value (codes "ports")) (value (codes "frames")) (value (codes "group")) (value (codes "json")) (value (codes "service")) (setting_options_by value) (value (codes "rules"))

-- what `audit` asks for
abbrev pub asked_by_audit : (Text → Option Text) → (Text → List Text) → Option Request
asked_by_audit value values = option_map (λ file. audit_request (values (codes "file")) (audit_options_by value)) (value (codes "file"))

-- the options of `explore`, by the first value of each, and all
abbrev pub explore_options_by : (Text → Option Text) → (Text → List Text) → ExploreRequest
explore_options_by value values = record {
  after = value (codes "after");
  steps = value (codes "steps");
  most = value (codes "most");
  once = values (codes "once");
  never = values (codes "never");
  progress = is_on (value (codes "progress"));
}

-- what `explore` asks for
abbrev pub asked_by_explore : (Text → Option Text) → (Text → List Text) → Option Request
asked_by_explore value values =
    option_and_then
    (λ setup. option_and_then (λ moves. option_map (λ goal. explore_request setup moves goal (explore_options_by value values)) (value (codes "goal"))) (value (codes "moves")))
    (value (codes "setup"))

-- the options of `extract`, by what each matched
abbrev pub extract_options_of : PacketRequest → ChoiceRequest → (ports service : Option Text) → ExtractRequest
extract_options_of packets choice ports service = record { packets = packets; choice = choice; ports = ports; service = service }

abbrev pub extract_options_by : (Text → Option Text) → ExtractRequest
extract_options_by value = extract_options_of (packet_options_by value) (choice_options_by value) (value (codes "ports")) (value (codes "service"))

-- what `extract` asks for
abbrev pub asked_by_extract : (Text → Option Text) → (Text → List Text) → Option Request
asked_by_extract value values = option_map (λ file. extract_request (values (codes "file")) (extract_options_by value)) (value (codes "file"))

-- the options of `services`, by what each matched
abbrev pub report_options_of : PacketRequest → ChoiceRequest → (ports service : Option Text) → Bool → ReportRequest
report_options_of packets choice ports service json = record { packets = packets; choice = choice; ports = ports; service = service; json = json }

abbrev pub report_options_by : (Text → Option Text) → ReportRequest
report_options_by value =
    report_options_of (packet_options_by value) (choice_options_by value) (value (codes "ports")) (value (codes "service")) (is_on (value (codes "json")))

-- what `services` asks for
abbrev pub asked_by_services : (Text → Option Text) → (Text → List Text) → Option Request
asked_by_services value values = option_map (λ file. services_request (values (codes "file")) (report_options_by value)) (value (codes "file"))

-- the options of `stats`, by what each matched
abbrev pub stats_options_of : ReportRequest → (overtake_ms sessions : Option Text) → StatsRequest
stats_options_of report overtake_ms sessions = record { report = report; overtake_ms = overtake_ms; sessions = sessions }

abbrev pub stats_options_by : (Text → Option Text) → StatsRequest
stats_options_by value = stats_options_of (report_options_by value) (value (codes "overtake-ms")) (value (codes "sessions"))

-- what `stats` asks for
abbrev pub asked_by_stats : (Text → Option Text) → (Text → List Text) → Option Request
asked_by_stats value values = option_map (λ file. stats_request (values (codes "file")) (stats_options_by value)) (value (codes "file"))

-- what a subcommand asks for, by its name and the values of its arguments and options: the first of each, and all
abbrev pub asked_by_subcommand : Text → (Text → Option Text) → (Text → List Text) → Option Request
asked_by_subcommand name value values =
    if bytes_eq name (codes "show") then asked_by_show value
    else (if bytes_eq name (codes "payload") then asked_by_payload value
    else (if bytes_eq name (codes "encode") then asked_by_encode value
    else (if bytes_eq name (codes "vectors") then asked_by_vectors value
    else (if bytes_eq name (codes "run") then asked_by_run value
    else (if bytes_eq name (codes "recording") then asked_by_recording value values
    else (if bytes_eq name (codes "chart") then asked_by_chart value
    else (if bytes_eq name (codes "audit") then asked_by_audit value values
    else (if bytes_eq name (codes "explore") then asked_by_explore value values
    else (if bytes_eq name (codes "extract") then asked_by_extract value values
    else (if bytes_eq name (codes "services") then asked_by_services value values
    else (if bytes_eq name (codes "stats") then asked_by_stats value values else None)))))))))))

-- what the subcommand that was entered asks for, where one was
abbrev pub asked_by_entered : Option (Text × List Row) → Option Request
asked_by_entered entered = option_and_then (λ p. asked_by_subcommand p.0 (λ id. first_of id p.1) (λ id. unwrap_or (all_of id p.1) [])) entered

-- what the words ask for, by what `clap` matches from them
abbrev pub requested : List Text → Option Request
requested words = asked_by_entered (subcommand_of cli words)

-- ---- what is wrong with words

-- the words have no fault
abbrev pub IsTaken : List Text → Type 0
IsTaken words = fault_of cli words ≡ []

-- a call for help is among the faults of the words: after `help`, so is a command that there is not
abbrev pub CallsForHelp : List Text → Type 0
CallsForHelp words = IsAmong kind.DisplayHelp (fault_of cli words)

-- the words have a fault of this kind, and it is no call for help
abbrev pub HaveFault : List Text → ErrorKind → Type 0
HaveFault words k = (k ≢ kind.DisplayHelp) × IsAmong k (fault_of cli words)

-- help comes for a call for help, and usage for another fault
abbrev pub RefusesWords : List Text → LineError → Type 0
RefusesWords words (Help text) = CallsForHelp words
RefusesWords words (Usage e) = HaveFault words (kind_of e)
RefusesWords words OutOfMemory = Unit {0}

-- what becomes of an error of the parse: help, out of memory (also where there is none for the text of help), or
-- else usage
abbrev pub IsLineErrorOf : Error → LineError → Type 0
IsLineErrorOf from (Help text) = kind_of from ≡ kind.DisplayHelp
IsLineErrorOf from (Usage e) = (e ≡ from) × (kind_of from ≢ kind.DisplayHelp)
    × (kind_of from ≢ kind.OutOfMemory)
IsLineErrorOf from OutOfMemory = (kind_of from ≡ kind.OutOfMemory) ⊎ (kind_of from ≡ kind.DisplayHelp)

-- ---- words

-- the words of a call: the program's name, and what follows it
abbrev pub line : List Text → List Text
line words = codes "someipctl" ∷ words

-- the word begins with a hyphen (45), and is not that alone
abbrev pub is_flag : Text → Bool
is_flag [] = false
is_flag (x ∷ []) = false
is_flag (x ∷ (y ∷ ys)) = x == 45
