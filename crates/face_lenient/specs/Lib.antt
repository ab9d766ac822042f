pub mod FaceLenient
