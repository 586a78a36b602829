-- The markup texts of the documents.
use Rattle.std.specs.Prelude.{ℕ, ◌+◌, ◌==◌, ◌&&◌, Bool, true, List, [], ◌∷◌, ◌++◌, codes}
use Rattle.std.specs.List.{flat_map}
use Rattle.ojp_tables.specs.declared.names.TheConstants.{OJP_REQUEST, SERVICE_REQUEST, OJP_RESPONSE, SERVICE_DELIVERY, OJP_TRIP_REQUEST, OJP_MULTI_POINT_TRIP_REQUEST, OJP_STOP_EVENT_REQUEST, OJP_EXCHANGE_POINTS_REQUEST, OJP_TRIP_DELIVERY, OJP_MULTI_POINT_TRIP_DELIVERY, OJP_STOP_EVENT_DELIVERY, OJP_EXCHANGE_POINTS_DELIVERY, ORIGIN, DESTINATION, LOCATION, PARAMS, PLACE_REF, STOP_POINT_REF, DEP_ARR_TIME, NUMBER_OF_RESULTS, STOP_EVENT_TYPE, TRIP_RESULT, MULTI_POINT_TRIP_RESULT, TRIP, DURATION, START_TIME, END_TIME, TRANSFERS, TRIP_LEG, TIMED_LEG, LEG_BOARD, LEG_ALIGHT, STOP_POINT_NAME, TIMETABLED_TIME, SERVICE, OPERATING_DAY_REF, JOURNEY_REF, LINE_REF, OPERATOR_REF, STOP_EVENT_RESULT, ORDER, EXCHANGE_POINT, NEIGHBOUR, TRANSFER_DURATION, ERROR_CONDITION, SUBJECT}

-- <NAME>
abbrev pub opened : List ℕ → List ℕ
opened name = 60 ∷ name ++ 62 ∷ []

-- </NAME>
abbrev pub closed : List ℕ → List ℕ
closed name = 60 ∷ 47 ∷ name ++ 62 ∷ []

-- each element: the number of its opening text, and its name
abbrev pub ELEMENTS : List (ℕ × List ℕ)
ELEMENTS =
    (OJP_REQUEST, codes "OJPRequest")
    ∷ (SERVICE_REQUEST, codes "ServiceRequest")
    ∷ (OJP_RESPONSE, codes "OJPResponse")
    ∷ (SERVICE_DELIVERY, codes "ServiceDelivery")
    ∷ (OJP_TRIP_REQUEST, codes "ojp:OJPTripRequest")
    ∷ (OJP_MULTI_POINT_TRIP_REQUEST, codes "ojp:OJPMultiPointTripRequest")
    ∷ (OJP_STOP_EVENT_REQUEST, codes "ojp:OJPStopEventRequest")
    ∷ (OJP_EXCHANGE_POINTS_REQUEST, codes "ojp:OJPExchangePointsRequest")
    ∷ (OJP_TRIP_DELIVERY, codes "ojp:OJPTripDelivery")
    ∷ (OJP_MULTI_POINT_TRIP_DELIVERY, codes "ojp:OJPMultiPointTripDelivery")
    ∷ (OJP_STOP_EVENT_DELIVERY, codes "ojp:OJPStopEventDelivery")
    ∷ (OJP_EXCHANGE_POINTS_DELIVERY, codes "ojp:OJPExchangePointsDelivery")
    ∷ (ORIGIN, codes "ojp:Origin")
    ∷ (DESTINATION, codes "ojp:Destination")
    ∷ (LOCATION, codes "ojp:Location")
    ∷ (PARAMS, codes "ojp:Params")
    ∷ (PLACE_REF, codes "ojp:PlaceRef")
    ∷ (STOP_POINT_REF, codes "StopPointRef")
    ∷ (DEP_ARR_TIME, codes "ojp:DepArrTime")
    ∷ (NUMBER_OF_RESULTS, codes "ojp:NumberOfResults")
    ∷ (STOP_EVENT_TYPE, codes "ojp:StopEventType")
    ∷ (TRIP_RESULT, codes "ojp:TripResult")
    ∷ (MULTI_POINT_TRIP_RESULT, codes "ojp:MultiPointTripResult")
    ∷ (TRIP, codes "ojp:Trip")
    ∷ (DURATION, codes "ojp:Duration")
    ∷ (START_TIME, codes "ojp:StartTime")
    ∷ (END_TIME, codes "ojp:EndTime")
    ∷ (TRANSFERS, codes "ojp:Transfers")
    ∷ (TRIP_LEG, codes "ojp:TripLeg")
    ∷ (TIMED_LEG, codes "ojp:TimedLeg")
    ∷ (LEG_BOARD, codes "ojp:LegBoard")
    ∷ (LEG_ALIGHT, codes "ojp:LegAlight")
    ∷ (STOP_POINT_NAME, codes "ojp:StopPointName")
    ∷ (TIMETABLED_TIME, codes "ojp:TimetabledTime")
    ∷ (SERVICE, codes "ojp:Service")
    ∷ (OPERATING_DAY_REF, codes "ojp:OperatingDayRef")
    ∷ (JOURNEY_REF, codes "ojp:JourneyRef")
    ∷ (LINE_REF, codes "LineRef")
    ∷ (OPERATOR_REF, codes "ojp:OperatorRef")
    ∷ (STOP_EVENT_RESULT, codes "ojp:StopEventResult")
    ∷ (ORDER, codes "ojp:Order")
    ∷ (EXCHANGE_POINT, codes "ojp:ExchangePoint")
    ∷ (NEIGHBOUR, codes "ojp:Neighbour")
    ∷ (TRANSFER_DURATION, codes "ojp:TransferDuration")
    ∷ (ERROR_CONDITION, codes "ErrorCondition")
    ∷ (SUBJECT, codes "ojp:Subject") ∷ []

-- the numbers of the elements rise by two, from the first on
abbrev pub are_numbered : ℕ → List (ℕ × List ℕ) → Bool
are_numbered first [] = true
are_numbered first (element ∷ elements) = element.0 == first && are_numbered (first + 2) elements

-- an error code in its element
abbrev pub coded : List ℕ → List ℕ
coded name = opened (codes "ojp:Code") ++ name ++ closed (codes "ojp:Code")

-- every document begins with it
abbrev pub HEAD_TEXT : List ℕ
HEAD_TEXT = codes "<?xml version=\"1.0\" encoding=\"UTF-8\"?><OJP xmlns=\"http://www.siri.org.uk/siri\" xmlns:ojp=\"http://www.vdv.de/ojp\" version=\"1.0\">"

-- the texts, in the order of their numbers
abbrev pub MARKUP_TEXTS : List (List ℕ)
MARKUP_TEXTS =
    HEAD_TEXT ∷ codes "</OJP>"
    ∷ flat_map (λ element. opened element.1 ∷ closed element.1 ∷ []) ELEMENTS
    ++ coded (codes "SAME_STOP") ∷ coded (codes "STOP_UNKNOWN") ∷ coded (codes "NO_TRIP") ∷ coded (codes "REGION_FAILED") ∷ coded (codes "NOT_SERVED") ∷ []
