use Rattle.std.proofs.Common.{codes, refl}
use Rattle.std.specs.Net.Addr.{ipv4_octets, ipv6_octets}
use Rattle.hex.specs.Hex.{encode_lower}
use Rattle.std.specs.Net.Socket.{v4_ip, v4_port}
use Rattle.std.specs.Net.Text.{ipv4_text}
use Rattle.std.proofs.lemmas.Result.{on_ok_weaker, on_err_weaker}
use Rattle.someipctl_io.proofs.EscapeLemmas.{escape-plain}
use Rattle.someipctl_io.proofs.ObjectLemmas.{endpoint-text}
use Rattle.someipctl_io.proofs.SendingLemmas.{Sends-as, Stops-as}
use Rattle.someipctl_io.proofs.told_options.put_object.Goals as goal

pub returns-in-Endpoint4-clause-ok : goal.returns-in-Endpoint4-clause-ok
returns-in-Endpoint4-clause-ok g c =
    let e = c.in-Endpoint4.endpoint in
    rw c.in-Endpoint4.is (on_ok_weaker c.put_parts-in-Endpoint4.result (Sends-as _ _ _ _ _ _ (endpoint-text (codes "endpoint4") (ipv4_text (ipv4_octets (v4_ip e.socket))) (v4_port e.socket) e.protocol.0 (escape-plain (codes "endpoint4") refl))) (rw c.ipv4_object.ensures at c.put_parts-in-Endpoint4.ensures.ok))

pub returns-in-Endpoint4-clause-err : goal.returns-in-Endpoint4-clause-err
returns-in-Endpoint4-clause-err g c =
    let e = c.in-Endpoint4.endpoint in
    rw c.in-Endpoint4.is (on_err_weaker c.put_parts-in-Endpoint4.result (Stops-as _ _ _ _ _ (endpoint-text (codes "endpoint4") (ipv4_text (ipv4_octets (v4_ip e.socket))) (v4_port e.socket) e.protocol.0 (escape-plain (codes "endpoint4") refl))) (rw c.ipv4_object.ensures at c.put_parts-in-Endpoint4.ensures.err))

pub returns-in-Multicast4-clause-ok : goal.returns-in-Multicast4-clause-ok
returns-in-Multicast4-clause-ok g c =
    let e = c.in-Multicast4.endpoint in
    rw c.in-Multicast4.is (on_ok_weaker c.put_parts-in-Multicast4.result (Sends-as _ _ _ _ _ _ (endpoint-text (codes "multicast4") (ipv4_text (ipv4_octets (v4_ip e.socket))) (v4_port e.socket) e.protocol.0 (escape-plain (codes "multicast4") refl))) (rw c.ipv4_object-in-Multicast4.ensures at c.put_parts-in-Multicast4.ensures.ok))

pub returns-in-Multicast4-clause-err : goal.returns-in-Multicast4-clause-err
returns-in-Multicast4-clause-err g c =
    let e = c.in-Multicast4.endpoint in
    rw c.in-Multicast4.is (on_err_weaker c.put_parts-in-Multicast4.result (Stops-as _ _ _ _ _ (endpoint-text (codes "multicast4") (ipv4_text (ipv4_octets (v4_ip e.socket))) (v4_port e.socket) e.protocol.0 (escape-plain (codes "multicast4") refl))) (rw c.ipv4_object-in-Multicast4.ensures at c.put_parts-in-Multicast4.ensures.err))

pub returns-in-SdEndpoint4-clause-ok : goal.returns-in-SdEndpoint4-clause-ok
returns-in-SdEndpoint4-clause-ok g c =
    let e = c.in-SdEndpoint4.endpoint in
    rw c.in-SdEndpoint4.is (on_ok_weaker c.put_parts-in-SdEndpoint4.result (Sends-as _ _ _ _ _ _ (endpoint-text (codes "sdendpoint4") (ipv4_text (ipv4_octets (v4_ip e.socket))) (v4_port e.socket) e.protocol.0 (escape-plain (codes "sdendpoint4") refl))) (rw c.ipv4_object-in-SdEndpoint4.ensures at c.put_parts-in-SdEndpoint4.ensures.ok))

pub returns-in-SdEndpoint4-clause-err : goal.returns-in-SdEndpoint4-clause-err
returns-in-SdEndpoint4-clause-err g c =
    let e = c.in-SdEndpoint4.endpoint in
    rw c.in-SdEndpoint4.is (on_err_weaker c.put_parts-in-SdEndpoint4.result (Stops-as _ _ _ _ _ (endpoint-text (codes "sdendpoint4") (ipv4_text (ipv4_octets (v4_ip e.socket))) (v4_port e.socket) e.protocol.0 (escape-plain (codes "sdendpoint4") refl))) (rw c.ipv4_object-in-SdEndpoint4.ensures at c.put_parts-in-SdEndpoint4.ensures.err))

pub returns-in-Endpoint6-clause-ok : goal.returns-in-Endpoint6-clause-ok
returns-in-Endpoint6-clause-ok g c =
    let e = c.in-Endpoint6.endpoint in
    rw c.in-Endpoint6.is (on_ok_weaker c.put_ipv6_object.result (Sends-as _ _ _ _ _ _ (endpoint-text (codes "endpoint6") (encode_lower (ipv6_octets e.address)) e.port e.protocol.0 (escape-plain (codes "endpoint6") refl))) c.put_ipv6_object.ensures.ok)

pub returns-in-Endpoint6-clause-err : goal.returns-in-Endpoint6-clause-err
returns-in-Endpoint6-clause-err g c =
    let e = c.in-Endpoint6.endpoint in
    rw c.in-Endpoint6.is (on_err_weaker c.put_ipv6_object.result (Stops-as _ _ _ _ _ (endpoint-text (codes "endpoint6") (encode_lower (ipv6_octets e.address)) e.port e.protocol.0 (escape-plain (codes "endpoint6") refl))) c.put_ipv6_object.ensures.err)

pub returns-in-Multicast6-clause-ok : goal.returns-in-Multicast6-clause-ok
returns-in-Multicast6-clause-ok g c =
    let e = c.in-Multicast6.endpoint in
    rw c.in-Multicast6.is (on_ok_weaker c.put_ipv6_object-in-Multicast6.result (Sends-as _ _ _ _ _ _ (endpoint-text (codes "multicast6") (encode_lower (ipv6_octets e.address)) e.port e.protocol.0 (escape-plain (codes "multicast6") refl))) c.put_ipv6_object-in-Multicast6.ensures.ok)

pub returns-in-Multicast6-clause-err : goal.returns-in-Multicast6-clause-err
returns-in-Multicast6-clause-err g c =
    let e = c.in-Multicast6.endpoint in
    rw c.in-Multicast6.is (on_err_weaker c.put_ipv6_object-in-Multicast6.result (Stops-as _ _ _ _ _ (endpoint-text (codes "multicast6") (encode_lower (ipv6_octets e.address)) e.port e.protocol.0 (escape-plain (codes "multicast6") refl))) c.put_ipv6_object-in-Multicast6.ensures.err)

pub returns-in-SdEndpoint6-clause-ok : goal.returns-in-SdEndpoint6-clause-ok
returns-in-SdEndpoint6-clause-ok g c =
    let e = c.in-SdEndpoint6.endpoint in
    rw c.in-SdEndpoint6.is (on_ok_weaker c.put_ipv6_object-in-SdEndpoint6.result (Sends-as _ _ _ _ _ _ (endpoint-text (codes "sdendpoint6") (encode_lower (ipv6_octets e.address)) e.port e.protocol.0 (escape-plain (codes "sdendpoint6") refl))) c.put_ipv6_object-in-SdEndpoint6.ensures.ok)

pub returns-in-SdEndpoint6-clause-err : goal.returns-in-SdEndpoint6-clause-err
returns-in-SdEndpoint6-clause-err g c =
    let e = c.in-SdEndpoint6.endpoint in
    rw c.in-SdEndpoint6.is (on_err_weaker c.put_ipv6_object-in-SdEndpoint6.result (Stops-as _ _ _ _ _ (endpoint-text (codes "sdendpoint6") (encode_lower (ipv6_octets e.address)) e.port e.protocol.0 (escape-plain (codes "sdendpoint6") refl))) c.put_ipv6_object-in-SdEndpoint6.ensures.err)

pub returns-in-Raw-clause-ok : goal.returns-in-Raw-clause-ok
returns-in-Raw-clause-ok g c = rw c.in-Raw.is (rw (c.raw_object.ensures, c.kind.ensures, c.bytes.ensures.value) at c.put_parts-in-Raw.ensures.ok)

pub returns-in-Raw-clause-err : goal.returns-in-Raw-clause-err
returns-in-Raw-clause-err g c = rw c.in-Raw.is (rw (c.raw_object.ensures, c.kind.ensures, c.bytes.ensures.value) at c.put_parts-in-Raw.ensures.err)
