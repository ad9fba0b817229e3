-- The setup that a tree of TOML says, key by key, before clashes are judged.
use Rattle.std.specs.Prelude.{ℕ, ℤ, pos, false, ◌==◌, ◌||◌, nat_le, if◌then◌else◌, codes, List, length, Option, Some, None}
use Rattle.toml.specs.Data.{Data}
use Rattle.someip_world_setup_keys.specs.Keys.{◌>>=◌, number_within, number_or, flag_or, name_at, address_at}
use Rattle.someip_world_setup_keys.specs.Lists.{found_at_each, tables_at, tables_or_none, integers_at, integers_or_none, ids_of}
use Rattle.someip_world_setup_keys.specs.Values.{ListedValue, OfferValue, WantValue, NodeValue, PhasesValue, CommonValue, SetupValue}
use Rattle.someip_node_rules.specs.forms.GoodConfigs.{greatest_message_limit}

-- an ID: of a service, of an instance or of an eventgroup, from 1 to FFFE
abbrev pub id_at : List ℕ → Data → Option ℕ
id_at key = number_within key 1 0xFFFE

-- the port at a key, from 1 to 65535
abbrev pub port_at : List ℕ → Data → Option ℕ
port_at key = number_within key 1 0xFFFF

-- the major version of a table, from 0 to FE
abbrev pub major_at : Data → Option ℕ
major_at = number_within (codes "major") 0 0xFE

-- the TTL of a table in seconds, from 1 to FFFFFF
abbrev pub ttl_at : Data → Option ℕ
ttl_at = number_within (codes "ttl") 1 0xFFFFFF

-- ---- offers

-- the Method IDs at a key, up to 7FFF, and none where the key is absent
abbrev pub methods_at : List ℕ → Data → Option (List ℕ)
methods_at key d = integers_or_none key d >>= ids_of 0 0x7FFF

-- a list of IDs, if it has one at least
abbrev pub some_ids : List ℕ → Option (List ℕ)
some_ids ids = if length ids == 0 then None else Some ids

-- the eventgroups of an event, from 1 to FFFE, one at least
abbrev pub groups_at : Data → Option (List ℕ)
groups_at d = integers_at (codes "groups") d >>= ids_of 1 0xFFFE >>= some_ids

-- an event of an offer: its ID, from 8000 to FFFE, and its eventgroups
abbrev pub said_event : Data → Option ListedValue
said_event d =
    number_within (codes "id") 0x8000 0xFFFE d >>= λ id.
    groups_at d >>= λ members.
    Some (record { id = id; members = members })

-- the events of an offer, and none where the key is absent
abbrev pub events_at : Data → Option (List ListedValue)
events_at d = tables_or_none (codes "events") d >>= found_at_each said_event

-- an offer: its keys, each in its range, with its methods and events; what may be absent has its default
abbrev pub said_offer : Data → Option OfferValue
said_offer d =
    id_at (codes "service") d >>= λ service.
    id_at (codes "instance") d >>= λ instance.
    major_at d >>= λ major.
    number_or (codes "minor") (pos 0) 0 0xFFFFFFFE d >>= λ minor.
    ttl_at d >>= λ ttl.
    port_at (codes "port") d >>= λ port.
    methods_at (codes "methods") d >>= λ methods.
    methods_at (codes "oneways") d >>= λ oneways.
    events_at d >>= λ events.
    number_or (codes "subscribers") (pos 16) 1 1024 d >>= λ subscribers.
    Some (record {
      service = service;
      instance = instance;
      major = major;
      minor = minor;
      ttl = ttl;
      port = port;
      methods = methods;
      oneways = oneways;
      events = events;
      subscribers = subscribers;
    })

-- the offers of a node, and none where the key is absent
abbrev pub offers_at : Data → Option (List OfferValue)
offers_at d = tables_or_none (codes "offer") d >>= found_at_each said_offer

-- ---- wants

-- the events of an eventgroup, from 8000 to FFFE, which may be none
abbrev pub group_events : Data → Option (List ℕ)
group_events d = integers_at (codes "events") d >>= ids_of 0x8000 0xFFFE

-- an eventgroup of a want: its ID, from 1 to FFFE, and its events
abbrev pub said_eventgroup : Data → Option ListedValue
said_eventgroup d =
    id_at (codes "id") d >>= λ id.
    group_events d >>= λ members.
    Some (record { id = id; members = members })

-- a want: its keys, each in its range, and its eventgroups, none where their key is absent
abbrev pub said_want : Data → Option WantValue
said_want d =
    id_at (codes "service") d >>= λ service.
    id_at (codes "instance") d >>= λ instance.
    major_at d >>= λ major.
    ttl_at d >>= λ ttl.
    (tables_or_none (codes "groups") d >>= found_at_each said_eventgroup) >>= λ groups.
    Some (record { service = service; instance = instance; major = major; ttl = ttl; groups = groups })

-- the wants of a node, and none where the key is absent
abbrev pub wants_at : Data → Option (List WantValue)
wants_at d = tables_or_none (codes "want") d >>= found_at_each said_want

-- ---- nodes

-- a node, whose delay lies between two times; it is a liar where it says so
abbrev pub said_node : ℕ → ℕ → Data → Option NodeValue
said_node least most d =
    name_at d >>= λ name.
    address_at (codes "address") d >>= λ address.
    number_within (codes "client_id") 0 0xFFFF d >>= λ client_id.
    port_at (codes "client_port") d >>= λ client_port.
    number_or (codes "delay") (pos least) least most d >>= λ delay.
    flag_or (codes "liar") false d >>= λ liar.
    offers_at d >>= λ offers.
    wants_at d >>= λ wants.
    Some (record {
      name = name;
      address = address;
      client_id = client_id;
      client_port = client_port;
      delay = delay;
      liar = liar;
      offers = offers;
      wants = wants;
    })

-- 1 to 64 tables
abbrev pub few_tables : List Data → Option (List Data)
few_tables ds = if (length ds == 0) || nat_le 65 (length ds) then None else Some ds

-- the tables of the nodes, of which there are 1 to 64
abbrev pub node_tables : Data → Option (List Data)
node_tables d = tables_at (codes "node") d >>= few_tables

-- ---- what all nodes share

-- the time at a key in milliseconds, from 1 to an hour, or its default
abbrev pub time_or : List ℕ → ℤ → Data → Option ℕ
time_or key default = number_or key default 1 3600000

-- the number of things at a key, from 1 to 1024, or its default
abbrev pub count_or : List ℕ → ℤ → Data → Option ℕ
count_or key default = number_or key default 1 1024

-- the delays after the first one: keys, ranges and defaults
abbrev pub said_phases : Data → Option PhasesValue
said_phases d =
    number_or (codes "base") (pos 30) 1 60000 d >>= λ base.
    number_or (codes "repetitions") (pos 3) 0 16 d >>= λ repetitions.
    time_or (codes "cyclic") (pos 1000) d >>= λ cyclic.
    Some (record { base = base; repetitions = repetitions; cyclic = cyclic })

-- what all nodes share: keys, ranges and defaults; the greatest initial delay is not below the least
abbrev pub said_common : Data → Option CommonValue
said_common d =
    address_at (codes "group") d >>= λ group.
    number_or (codes "initial_min") (pos 10) 0 60000 d >>= λ initial_min.
    number_or (codes "initial_max") (pos 100) initial_min 60000 d >>= λ initial_max.
    said_phases d >>= λ phases.
    number_or (codes "message_limit") (pos 65536) 1400 greatest_message_limit d >>= λ message_limit.
    count_or (codes "slots") (pos 16) d >>= λ slots.
    count_or (codes "peers") (pos 64) d >>= λ peers.
    time_or (codes "reassembly_timeout") (pos 1000) d >>= λ reassembly_timeout.
    time_or (codes "call_timeout") (pos 2000) d >>= λ call_timeout.
    Some (record {
      group = group;
      initial_min = initial_min;
      initial_max = initial_max;
      phases = phases;
      message_limit = message_limit;
      slots = slots;
      peers = peers;
      reassembly_timeout = reassembly_timeout;
      call_timeout = call_timeout;
    })

-- ---- the setup

-- the setup that a tree says: what all nodes share, and then the nodes
abbrev pub said_setup : Data → Option SetupValue
said_setup d =
    said_common d >>= λ common.
    node_tables d >>= λ tables.
    found_at_each (said_node common.initial_min common.initial_max) tables >>= λ nodes.
    Some (record { common = common; nodes = nodes })
